use Rattle.std.proofs.Common.{refl}
use Rattle.model.specs.Value.{le64}
use Rattle.floats.proofs.le64.Goals as goal

pub returns : goal.returns
unfolding le64
returns c = rw (← c.float_of.ensures, ← c.float_of-2.ensures) refl
