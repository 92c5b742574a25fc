use Rattle.model.specs.Value.{plus64}
use Rattle.floats.proofs.plus64.Goals as goal

pub returns : goal.returns
unfolding plus64
returns c = rw (← c.float_of.ensures, ← c.float_of-2.ensures) c.bits_of.ensures
