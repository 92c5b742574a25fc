use Prim.Native.Nat.{ℕ, ◌+◌, ◌-◌, ◌<◌}
use mathlib.Core.List.{map}
use mathlib.Core.Path.{◌≡◌}
use lib.Seq.{sets}
use Rattle.model.specs.Base.{from}
use Rattle.linking.specs.Building.{written}
use Rattle.linking.proofs.cells.write_each.Given as goal

abbrev pub invariant-loop-k : goal.invariant-loop-k
invariant-loop-k g l =
    (v : ℕ → ℕ) → ((k r : ℕ) → k < l.n → goal.F-post g l.f k r → r ≡ v k) →
    sets l.cells (l.base + l.k) (map v (from l.k (l.n - l.k))) ≡ written l.initial.cells l.base l.n v
