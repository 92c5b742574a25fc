use mathlib.Core.Path.{◌≡◌}
use lib.ListN.{length}
use Rattle.logging.proofs.Turns.{Row}
use Rattle.logging.proofs.write_row.Given as goal

abbrev pub invariant-loop-i : goal.invariant-loop-i
invariant-loop-i g l = (length l.log ≡ length l.initial.log) × Row (goal.F-post g l.word) l.n l.initial.log l.log l.p l.i
