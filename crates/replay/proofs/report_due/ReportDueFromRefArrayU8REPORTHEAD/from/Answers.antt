use Rattle.replay.specs.ReportDue.{report_due_of}
use Rattle.replay.proofs.report_due.ReportDueFromRefArrayU8REPORTHEAD.from.Goals as goal

pub returns : goal.returns
unfolding report_due_of
returns c = λ i. record { driver = c.read.ensures i; activity = c.read-2.ensures i; length = c.read-3.ensures i; report = c.read-4.ensures i; told = c.read-5.ensures i; number = c.read-6.ensures i; circuit = c.read-7.ensures i; log = c.read-8.ensures i; lines = c.read-9.ensures i }
