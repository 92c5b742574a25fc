-- A report of the packed ones.
use Rattle.std.specs.Prelude.{ℕ, List, slice_index}
use Rattle.replay.specs.declared.report_due.ReportDue.{ReportDue}

-- its numbers, from the words before its circuit
unfoldable pub report_due_of : List ℕ → ReportDue
report_due_of ws =
    record { driver = slice_index ws 0; activity = slice_index ws 1; length = slice_index ws 2; report = slice_index ws 3; told = slice_index ws 4; number = slice_index ws 5; circuit = slice_index ws 6; log = slice_index ws 7; lines = slice_index ws 8 }
