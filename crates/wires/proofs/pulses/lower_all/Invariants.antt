use Rattle.model.specs.Opening.{lower as lower_pulse}
use Rattle.std.proofs.Common.{◌≡◌, ℕ, ◌*◌, length}
use Rattle.model.specs.Base.{each, from}
use Rattle.model.specs.State.{Wires}
use Rattle.links.specs.Links.{net}
use Rattle.wires.specs.View.{with_wires, values as view}
use Rattle.wires.proofs.Lists.{left_of}
use Rattle.wires.proofs.Steps.{step}
use Rattle.wires.proofs.pulses.lower_all.Given as goal

abbrev pub invariant-loop-j : goal.invariant-loop-j
invariant-loop-j l = (length l.values ≡ length l.initial.values) × (left_of (step (λ (w : Wires) (i : ℕ). each (lower_pulse (net l.links)) w (from (64 * i) 64))) (view (net l.links) l.values) 0 l.n l.j ≡ with_wires (view (net l.links) l.initial.values) (each (lower_pulse (net l.links)) (view (net l.links) l.initial.values).wires (from 0 (length (net l.links).outputs))))
