use Prim.Native.Nat.{◌/◌, ◌≤◌}
use mathlib.Core.Path.{◌≡◌}
use lib.ListN.{length}
use Rattle.links.specs.Links.{net}
use Rattle.records.specs.Whole.{whole}
use Rattle.whole.proofs.Logs.{left_whole}
use Rattle.whole.proofs.whole.Given as goal

abbrev pub invariant-loop-tick : goal.invariant-loop-tick
invariant-loop-tick l = (l.size ≡ length l.log / 8) × (l.at ≤ length l.log / 8) × (left_whole (net l.links) l.log l.at l.tick ≡ whole (net l.links) l.log)
