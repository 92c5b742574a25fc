use Rattle.replay.proofs.ReportMeeting.{report_meets}
use Rattle.replay.proofs.play_report_lent.Goals as goal

pub returns : goal.returns
returns c = report_meets _ _ _ _ _ _ _ _ _ _ _ _ c.hours.ensures c.refused-number.ensures c.is_answered.ensures
