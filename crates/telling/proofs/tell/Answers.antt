use Rattle.telling.proofs.Numbers.{puts_more}
use Rattle.telling.proofs.tell.Goals as goal

pub returns : goal.returns
returns c = puts_more _ _ _ _ _ _ _ c.number_of.ensures c.put_at.ensures c.tell_end.ensures
