-- Steps over what the area holds that change the wires alone, one after the other.
use Rattle.std.proofs.Common.{◌≡◌, ℕ, List, [], ◌∷◌, refl, ap, ◌∙◌}
use Rattle.model.specs.Base.{each, from}
use Rattle.model.specs.State.{Wires}
use Rattle.wires.specs.View.{Values, with_wires}
use Rattle.wires.proofs.Lists.{left_of, turn_first}

-- one step
abbrev pub step : (Wires → ℕ → Wires) → Values → ℕ → Values
step f v i = with_wires v (f v.wires i)

pub each_step : (f : Wires → ℕ → Wires) (v : Values) (xs : List ℕ) → each (step f) v xs ≡ with_wires v (each f v.wires xs)
unfolding each
each_step f v [] = refl
each_step f v (x ∷ xs) = each_step f (step f v x) xs

pub steps_first : (f : Wires → ℕ → Wires) (v : Values) (a n : ℕ) → left_of (step f) v a n 0 ≡ with_wires v (each f v.wires (from a n))
steps_first f v a n = turn_first (step f) v a n ∙ each_step f v (from a n)

pub steps_counted : (f : Wires → ℕ → Wires) (v : Values) (n m : ℕ) → n ≡ m → left_of (step f) v 0 n 0 ≡ with_wires v (each f v.wires (from 0 m))
steps_counted f v n m e = steps_first f v 0 n ∙ ap (λ (k : ℕ). with_wires v (each f v.wires (from 0 k))) e
