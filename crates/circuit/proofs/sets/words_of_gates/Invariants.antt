use Prim.Native.Nat.{ℕ, ◌<◌}
use mathlib.Core.Path.{◌≡◌}
use lib.ListN.{length, get_or}
use Rattle.model.specs.Circuit.{most_gates}
use Rattle.circuit.proofs.sets.words_of_gates.Given as goal

abbrev pub invariant-loop-g : goal.invariant-loop-g
invariant-loop-g g l =
    (length l.words ≡ most_gates)
    × ((f : ℕ → ℕ) → ((h y : ℕ) → goal.F-post g l.word h y → y ≡ f h) → (h : ℕ) → h < l.g → get_or l.words h 0 ≡ f h)
