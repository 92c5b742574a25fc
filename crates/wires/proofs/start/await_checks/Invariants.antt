use Rattle.std.proofs.Common.{◌≡◌, length}
use Rattle.model.specs.Base.{each, from}
use Rattle.links.specs.Links.{net}
use Rattle.wires.specs.View.{with_wires, values as view}
use Rattle.wires.specs.Start.{awaited}
use Rattle.wires.proofs.Lists.{left_of}
use Rattle.wires.proofs.Steps.{step}
use Rattle.wires.proofs.start.await_checks.Given as goal

abbrev pub invariant-loop-i : goal.invariant-loop-i
invariant-loop-i l = (length l.values ≡ length l.initial.values) × (left_of (step (awaited (net l.links))) (view (net l.links) l.values) 0 l.n l.i ≡ with_wires (view (net l.links) l.initial.values) (each (awaited (net l.links)) (view (net l.links) l.initial.values).wires (from 0 (length (net l.links).pins))))
