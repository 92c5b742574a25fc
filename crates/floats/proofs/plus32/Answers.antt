use Rattle.model.specs.Value.{plus32}
use Rattle.floats.proofs.plus32.Goals as goal

pub returns : goal.returns
unfolding plus32
returns c = rw (← c.float32_of.ensures, ← c.float32_of-2.ensures) c.bits32_of.ensures
