use Rattle.replay.proofs.ClassMeeting.{class_meets}
use Rattle.replay.proofs.play_class_lent.Goals as goal

pub returns : goal.returns
returns c = class_meets _ _ _ _ _ _ _ _ _ _ _ _ _ _ _ _ _ _ c.class.ensures c.refused-number.ensures c.is_class_as_due.ensures
