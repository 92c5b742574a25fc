-- What the definition makes of a report, held against what is due of it.
use Rattle.std.specs.Prelude.{ℕ, Bool, List}
use Rattle.records.specs.Reply.{Reply, reply_number, buffer_after, told_after}
use Rattle.hours.specs.Call.{Call, hours_answer}
use Rattle.replay.specs.declared.report_due.ReportDue.{ReportDue}
use Rattle.replay.specs.Bytes.{answered}

-- the call that is made
abbrev pub report_called : ReportDue → (circuit log report told : List ℕ) → Call
report_called d circuit log report told =
    record { circuit = circuit; log = log; driver = d.driver; activity = d.activity; len = d.length; report = report; told = told }

-- an answer of the definition, and what it leaves of this buffer and these words, are as they are due
abbrev pub report_left_as_due : ReportDue → (lines words : List ℕ) → Reply → (report told : List ℕ) → Bool
report_left_as_due d lines words a report told = answered (reply_number a) d.number (buffer_after a report) lines (told_after a told) words

-- so is its answer to this circuit and log, where this buffer and these words are lent
unfoldable pub report_met : ReportDue → (circuit log lines words report told : List ℕ) → Bool
report_met d circuit log lines words report told = report_left_as_due d lines words (hours_answer (report_called d circuit log report told)) report told
