use mathlib.Core.Path.{◌≡◌}
use lib.ListN.{length, get_or}
use Rattle.model.specs.Opening.{advance_clock}
use Rattle.states.specs.View.{Lent}
use Rattle.areas.specs.Areas.{areas}
use Rattle.links.specs.Links.{net, gates_of_word}
use Rattle.opening.proofs.Stages.{Leads}
use Rattle.opening.proofs.moving.advance_clocks.Given as goal

abbrev pub invariant-loop-g : goal.invariant-loop-g
invariant-loop-g l = (length l.values ≡ length l.initial.values) × (length l.units ≡ length l.initial.units) × (length l.delays ≡ length l.initial.delays) × Lent (net l.links) l.delays × (l.g ≡ get_or (gates_of_word l.d) 0 64) × Leads (net l.links) (advance_clock (net l.links)) (areas (net l.links) l.initial.values l.initial.units l.initial.delays) (net l.links).clocks (areas (net l.links) l.values l.units l.delays) l.d

abbrev pub decreases-loop-g : goal.decreases-loop-g
decreases-loop-g l = length (gates_of_word l.d)
