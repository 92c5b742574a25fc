use native.Mathlib.Omega.{arith}
use Rattle.settling.proofs.Turns.{rounds_few, all_checked}
use Rattle.settling.proofs.check_waiting.Goals as goal

pub overflow_mul-rounds : goal.overflow_mul-rounds
overflow_mul-rounds c = omega (arith, rounds_few c.inputs.result c.outputs.result c.inputs.ensures.1 c.outputs.ensures.1)

pub returns-clause-over_all : goal.returns-clause-over_all
returns-clause-over_all c = all_checked _ _ _ _ _ _ _ c.inputs.ensures c.outputs.ensures c.settle_on.ensures.over_all
