use Rattle.std.proofs.Common.{refl, rules}
use Rattle.wires.proofs.Lists.{turn_zero, turn_last}
use Rattle.wires.proofs.Steps.{steps_counted}
use Rattle.wires.proofs.start.prepare_all.Goals as goal

pub loop-g-init : goal.loop-g-init
loop-g-init c = (search rules, steps_counted _ _ _ _ c.gates-n.ensures.0)

pub loop-g-preserved : goal.loop-g-preserved
loop-g-preserved c = (search rules, turn_zero _ _ 0 _ _ _ _ refl c.loop-g-test.true c.prepare.ensures c.loop-g.invariant.1)

pub returns : goal.returns
returns c = turn_last _ _ _ _ _ _ c.loop-g-test.false c.loop-g.invariant.1
