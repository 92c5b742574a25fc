use Rattle.std.proofs.Common.{◌≡◌, length}
use Rattle.model.specs.Base.{each, from}
use Rattle.links.specs.Links.{net}
use Rattle.wires.specs.View.{with_wires, values as view}
use Rattle.wires.specs.Start.{prepared}
use Rattle.wires.proofs.Lists.{left_of}
use Rattle.wires.proofs.Steps.{step}
use Rattle.wires.proofs.start.prepare_all.Given as goal

abbrev pub invariant-loop-g : goal.invariant-loop-g
invariant-loop-g l = (length l.values ≡ length l.initial.values) × (left_of (step (prepared (net l.links))) (view (net l.links) l.values) 0 l.n l.g ≡ with_wires (view (net l.links) l.initial.values) (each (prepared (net l.links)) (view (net l.links) l.initial.values).wires (from 0 (length (net l.links).kinds))))
