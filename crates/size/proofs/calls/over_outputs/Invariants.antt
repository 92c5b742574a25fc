use Prim.Native.Nat.{ℕ}
use mathlib.Core.Path.{◌≡◌}
use Rattle.model.specs.Base.{each}
use Rattle.links.specs.Links.{net}
use Rattle.figures.specs.Figures.{entered_from, passed_on}
use Rattle.circuit.proofs.Turns.{each_from}
use Rattle.size.proofs.calls.over_outputs.Given as goal

abbrev pub invariant-loop-p : goal.invariant-loop-p
invariant-loop-p g l =
    (f : ℕ → ℕ → ℕ) → ((x o y : ℕ) → goal.F-post g l.step x o y → y ≡ each f x (entered_from (net l.links) o)) →
    each_from (λ x o. each f x (entered_from (net l.links) o)) l.first l.n l.x l.p ≡ each f l.start (passed_on (net l.links) l.g)
