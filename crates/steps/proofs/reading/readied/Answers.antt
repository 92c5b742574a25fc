use Rattle.wires.proofs.Steps.{steps_first}
use Rattle.wires.proofs.Lists.{turn_next, turn_last}
use borrow.Author.Rules.{rules}
use Rattle.steps.proofs.reading.readied.Goals as goal

pub loop-k-init : goal.loop-k-init
loop-k-init c = (search rules, steps_first _ _ _ _)

pub loop-k-preserved : goal.loop-k-preserved
loop-k-preserved c = (search rules, turn_next _ _ _ _ _ _ _ c.loop-k-test.true c.ready.ensures c.loop-k.invariant.1)

pub returns : goal.returns
returns c = turn_last _ _ _ _ _ _ c.loop-k-test.false c.loop-k.invariant.1
