use Rattle.std.proofs.Common.{refl}
use Rattle.model.specs.Value.{le32}
use Rattle.floats.proofs.le32.Goals as goal

pub returns : goal.returns
unfolding le32
returns c = rw (← c.float32_of.ensures, ← c.float32_of-2.ensures) refl
