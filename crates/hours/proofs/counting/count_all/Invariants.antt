use Prim.Native.Nat.{◌-◌, ◌/◌, ◌≤◌}
use mathlib.Core.Path.{◌≡◌}
use lib.ListN.{length}
use Rattle.hours.proofs.Passing.{Counting}
use Rattle.hours.proofs.counting.count_all.Given as goal

abbrev pub invariant-loop-at : goal.invariant-loop-at
invariant-loop-at l = (l.size ≡ length l.log / 8) × (l.at ≤ l.size) × Counting l.names.outs l.log l.names.driver l.names.activity l.at l.tally.drivers l.tally.counts l.tally.n

abbrev pub decreases-loop-at : goal.decreases-loop-at
decreases-loop-at l = l.size - l.at
