use mathlib.Core.Path.{◌≡◌}
use lib.ListN.{length, get_or}
use Rattle.schedule.specs.Schedule.{to_delivered}
use Rattle.model.specs.Opening.{delivered}
use Rattle.links.specs.Links.{net, gates_of_word}
use Rattle.units.specs.View.{units as view}
use Rattle.opening.specs.Stages.{event}
use Rattle.opening.proofs.Acts.{Still, hear}
use Rattle.opening.proofs.filing.deliver_event.Given as goal

abbrev pub invariant-loop-r : goal.invariant-loop-r
invariant-loop-r l = (length l.units ≡ length l.initial.units) × ((view (net l.links) l.units).events ≡ (view (net l.links) l.initial.units).events) × (l.r ≡ get_or (gates_of_word l.d) 0 64) × Still (net l.links) to_delivered (view (net l.links) l.initial.units) (delivered (net l.links) (event (view (net l.links) l.initial.units) l.e)) (view (net l.links) l.units) (hear (net l.links) (view (net l.links) l.initial.units) l.kind l.e l.channel (gates_of_word l.d))

abbrev pub decreases-loop-r : goal.decreases-loop-r
decreases-loop-r l = length (gates_of_word l.d)
