use Rattle.telling.proofs.Numbers.{puts_two}
use Rattle.telling.proofs.tell_end.Goals as goal

pub returns : goal.returns
returns c = puts_two _ _ _ _ _ _ _ _ c.ticks_of.ensures c.put_at.ensures c.bytes_of.ensures c.put_at-2.ensures
