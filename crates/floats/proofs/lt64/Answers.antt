use Rattle.std.proofs.Common.{refl}
use Rattle.model.specs.Value.{lt64}
use Rattle.floats.proofs.lt64.Goals as goal

pub returns : goal.returns
unfolding lt64
returns c = rw (← c.float_of.ensures, ← c.float_of-2.ensures) refl
