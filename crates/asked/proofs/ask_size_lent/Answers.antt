use Rattle.asked.proofs.SizeMeeting.{size_meets}
use Rattle.asked.proofs.ask_size_lent.Goals as goal

pub returns : goal.returns
returns c = size_meets _ _ _ _ _ _ _ _ c.size.ensures c.refused-number.ensures c.is_size_as_due.ensures
