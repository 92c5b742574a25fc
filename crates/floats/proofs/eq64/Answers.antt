use Rattle.std.proofs.Common.{refl}
use Rattle.model.specs.Value.{eq64}
use Rattle.floats.proofs.eq64.Goals as goal

pub returns : goal.returns
unfolding eq64
returns c = rw (← c.float_of.ensures, ← c.float_of-2.ensures) refl
