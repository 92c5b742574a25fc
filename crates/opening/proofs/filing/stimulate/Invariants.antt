use mathlib.Core.Path.{◌≡◌}
use lib.ListN.{length}
use Rattle.schedule.specs.Schedule.{to_late}
use Rattle.links.specs.Links.{net}
use Rattle.units.specs.View.{units as view}
use Rattle.words.specs.Words.{words}
use Rattle.opening.specs.Opening.{stimuli_of}
use Rattle.opening.proofs.Acts.{Still, stimuli_from}
use Rattle.opening.proofs.filing.stimulate.Given as goal

abbrev pub invariant-loop-k : goal.invariant-loop-k
invariant-loop-k l = (length l.units ≡ length l.initial.units) × Still (net l.links) to_late (view (net l.links) l.initial.units) (stimuli_of (net l.links) (words l.script) l.gates_at l.constants_at l.n) (view (net l.links) l.units) (stimuli_from (net l.links) (words l.script) l.gates_at l.constants_at l.n l.k)
