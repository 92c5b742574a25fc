use mathlib.Core.Path.{◌≡◌}
use Prim.Native.Nat.{◌*◌}
use lib.ListN.{length}
use Rattle.words.specs.Words.{Filled}
use Rattle.hours.specs.Tally.{driver_size}
use Rattle.hours.proofs.Lines.{first_rows}
use Rattle.hours.proofs.writing.write_driver.Given as goal

abbrev pub invariant-loop-a : goal.invariant-loop-a
invariant-loop-a l = (length l.report ≡ length l.initial.report) × Filled l.initial.report l.report (driver_size * l.i) (first_rows l.len l.d l.tally.counts l.i l.a)
