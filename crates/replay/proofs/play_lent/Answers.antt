use Rattle.replay.proofs.Meeting.{meets}
use Rattle.replay.proofs.play_lent.Goals as goal

pub returns : goal.returns
returns c = meets _ _ _ _ _ _ _ _ _ _ _ _ _ _ c.run-answer.ensures c.is_as_due.ensures
