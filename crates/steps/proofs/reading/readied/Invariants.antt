use Rattle.wires.proofs.Steps.{step}
use Rattle.wires.proofs.Lists.{left_of}
use Rattle.wires.specs.View.{with_wires, values as view}
use Rattle.links.specs.Links.{net}
use Rattle.model.specs.Wires.{ready}
use Rattle.model.specs.Base.{each, from}
use lib.ListN.{length}
use mathlib.Core.Path.{◌≡◌}
use Rattle.steps.proofs.reading.readied.Given as goal

abbrev pub invariant-loop-k : goal.invariant-loop-k
invariant-loop-k l = (length l.values ≡ length l.initial.values) × (left_of (step (ready (net l.links))) (view (net l.links) l.values) l.i l.n l.k ≡ with_wires (view (net l.links) l.initial.values) (each (ready (net l.links)) (view (net l.links) l.initial.values).wires (from l.i l.n)))
