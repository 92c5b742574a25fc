use Rattle.hours.proofs.Passing.{place_left}
use Rattle.hours.specs.Tally.{place}
use lib.ListN.{take}
use mathlib.Core.Path.{◌≡◌}
use Rattle.hours.proofs.tally.Tally.place.Given as goal

abbrev pub invariant-loop-i : goal.invariant-loop-i
invariant-loop-i l = place_left l.self.drivers l.self.n l.d l.i ≡ place l.d (take l.self.n l.self.drivers)
