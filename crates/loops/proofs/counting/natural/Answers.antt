use Rattle.steps.proofs.Wiring.{var_cast}
use Rattle.loops.proofs.Runs.{natural_none, natural_is}
use Rattle.loops.proofs.counting.natural.Goals as goal

pub returns-then-z-lt0 : goal.returns-then-z-lt0
returns-then-z-lt0 c = natural_none _ c.ranges.z c.if-z-lt0.true

pub overflow_cast-result : goal.overflow_cast-result
overflow_cast-result c = var_cast _ c.ranges.z c.if-z-lt0.false

pub returns : goal.returns
returns c = natural_is _ c.ranges.z c.if-z-lt0.false
