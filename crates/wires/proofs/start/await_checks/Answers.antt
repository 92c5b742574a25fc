use Rattle.std.proofs.Common.{refl, rules}
use Rattle.wires.proofs.Lists.{turn_zero, turn_last}
use Rattle.wires.proofs.Steps.{steps_counted}
use Rattle.wires.proofs.start.await_checks.Goals as goal

pub loop-i-init : goal.loop-i-init
loop-i-init c = (search rules, steps_counted _ _ _ _ c.inputs-n.ensures.0)

pub loop-i-preserved : goal.loop-i-preserved
loop-i-preserved c = (search rules, turn_zero _ _ 0 _ _ _ _ refl c.loop-i-test.true c.await_check.ensures c.loop-i.invariant.1)

pub returns : goal.returns
returns c = turn_last _ _ _ _ _ _ c.loop-i-test.false c.loop-i.invariant.1
