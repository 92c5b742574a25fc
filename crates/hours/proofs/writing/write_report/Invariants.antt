use Rattle.hours.proofs.Lines.{Writing}
use lib.ListN.{length, take}
use mathlib.Core.Path.{◌≡◌}
use Rattle.hours.proofs.writing.write_report.Given as goal

abbrev pub invariant-loop-i : goal.invariant-loop-i
invariant-loop-i l = (length l.report ≡ length l.initial.report) × Writing l.len l.tally.counts (take l.tally.n l.tally.drivers) l.initial.report l.report l.i
