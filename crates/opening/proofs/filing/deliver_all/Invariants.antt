use mathlib.Core.List.{map}
use mathlib.Core.Path.{◌≡◌}
use lib.ListN.{length}
use Rattle.schedule.specs.Schedule.{to_delivered}
use Rattle.model.specs.Opening.{delivered}
use Rattle.model.specs.Base.{joined}
use Rattle.links.specs.Links.{net}
use Rattle.units.specs.View.{units as view}
use Rattle.opening.proofs.Acts.{Still, raised_from}
use Rattle.opening.proofs.filing.deliver_all.Given as goal

abbrev pub invariant-loop-e : goal.invariant-loop-e
invariant-loop-e l = (length l.units ≡ length l.initial.units) × ((view (net l.links) l.units).events ≡ (view (net l.links) l.initial.units).events) × Still (net l.links) to_delivered (view (net l.links) l.initial.units) (joined (map (delivered (net l.links)) (view (net l.links) l.initial.units).events)) (view (net l.links) l.units) (raised_from (net l.links) (view (net l.links) l.initial.units) l.e)
