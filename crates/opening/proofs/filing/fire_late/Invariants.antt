use Prim.Native.Nat.{◌-◌}
use mathlib.Core.Path.{◌≡◌}
use lib.ListN.{length}
use Rattle.schedule.specs.Schedule.{to_late}
use Rattle.model.specs.Opening.{fire}
use Rattle.links.specs.Links.{net}
use Rattle.units.specs.View.{units as view}
use Rattle.opening.proofs.Acts.{Still}
use Rattle.opening.proofs.filing.fire_late.Given as goal

abbrev pub invariant-loop : goal.invariant-loop
invariant-loop l = (length l.units ≡ length l.initial.units) × Still (net l.links) to_late (view (net l.links) l.initial.units) (fire l.n l.g) (view (net l.links) l.units) (fire (l.n - l.counter) l.g)
