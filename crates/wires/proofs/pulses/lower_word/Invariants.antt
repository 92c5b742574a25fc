use Rattle.model.specs.Opening.{lower as lower_pulse}
use Rattle.std.proofs.Common.{◌≡◌, ℕ, ◌+◌, ◌*◌, length}
use Rattle.words.specs.Bits.{bits_left}
use Rattle.model.specs.Base.{each, from}
use Rattle.model.specs.State.{Wires}
use Rattle.links.specs.Links.{net}
use Rattle.wires.specs.View.{with_wires, values as view}
use Rattle.wires.proofs.Steps.{step}
use Rattle.wires.proofs.pulses.lower_word.Given as goal

abbrev pub invariant-loop-b : goal.invariant-loop-b
invariant-loop-b l = (length l.values ≡ length l.initial.values) × (each (step (λ (w : Wires) (b : ℕ). lower_pulse (net l.links) w (64 * l.j + b))) (view (net l.links) l.values) (bits_left l.b-iterator) ≡ with_wires (view (net l.links) l.initial.values) (each (lower_pulse (net l.links)) (view (net l.links) l.initial.values).wires (from (64 * l.j) 64)))
