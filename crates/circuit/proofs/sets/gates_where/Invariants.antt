use Prim.Native.Nat.{ℕ, ◌-◌, ◌^◌, ◌<◌}
use mathlib.Core.Path.{◌≡◌}
use mathlib.Core.Bool.{Bool}
use Rattle.circuit.proofs.Descent.{gates_from}
use Rattle.circuit.proofs.sets.gates_where.Given as goal

abbrev pub invariant-loop-g : goal.invariant-loop-g
invariant-loop-g g l =
    (l.word < 2 ^ (l.n - l.g))
    × ((p : ℕ → Bool) → ((h : ℕ) (t : Bool) → h < l.n → goal.F-post g l.passes h t → t ≡ p h) → l.word ≡ gates_from p l.n l.g)
