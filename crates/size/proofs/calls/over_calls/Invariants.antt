use Prim.Native.Nat.{ℕ}
use mathlib.Core.Path.{◌≡◌}
use Rattle.model.specs.Base.{each}
use Rattle.links.specs.Links.{net}
use Rattle.figures.specs.Figures.{entered_from}
use Rattle.size.specs.Numbers.{entered}
use Rattle.circuit.proofs.Turns.{each_from}
use Rattle.size.proofs.calls.over_calls.Given as goal

abbrev pub invariant-loop-k : goal.invariant-loop-k
invariant-loop-k g l =
    (f : ℕ → ℕ → ℕ) → ((x h y : ℕ) → goal.F-post g l.step x h y → y ≡ f x h) →
    each_from (λ x k. f x (entered l.links k)) l.first l.n l.x l.k ≡ each f l.start (entered_from (net l.links) l.o)
