-- Sums that stop at 50,000,001, and the greatest of what they give: the cap comes out the same at the end.
use Prim.Native.Nat.{ℕ, suc, ◌+◌, min, max}
use mathlib.Core.Path.{◌≡◌, refl, ap, ◌∙◌}
use mathlib.Core.Bool.{Bool, true}
use mathlib.Core.List.{List, [], ◌∷◌, map}
use native.Mathlib.Omega.{arith}
use lib.ListN.{get_or}
use Rattle.model.specs.Base.{all, each, sum}
use Rattle.model.specs.Run.{most_steps}
use Rattle.figures.specs.Figures.{greatest}
use Rattle.figures.proofs.Rounds.{sum_same}
use Rattle.size.specs.Numbers.{cap, with_number}

-- one number after the other is added to a, which is below the cap
sum_of_numbers : (ns : List ℕ) (a : ℕ) (gs : List ℕ) → each (with_number ns) (cap a) gs ≡ cap (a + sum (map (λ g. get_or ns g 0) gs))
unfolding each sum with_number cap
sum_of_numbers ns a [] = omega arith
sum_of_numbers ns a (g ∷ gs) = sum_of_numbers ns (cap a + get_or ns g 0) gs ∙ again a (get_or ns g 0) (sum (map (λ g. get_or ns g 0) gs))
  where
    again : (a b c : ℕ) → min (suc most_steps) (min (suc most_steps) a + b + c) ≡ min (suc most_steps) (a + (b + c))
    again a b c = omega arith

-- a sum of capped numbers, capped
cap_sum : (a : ℕ) (f : ℕ → ℕ) (xs : List ℕ) → cap (a + sum (map (λ x. cap (f x)) xs)) ≡ cap (a + sum (map f xs))
unfolding cap sum
cap_sum a f [] = refl
cap_sum a f (x ∷ xs) = omega (arith, cap_sum a f xs)

-- where each number that passes a test is that of f, capped, so is the sum
pub capped_sum :
    (p : ℕ → Bool) (f : ℕ → ℕ) (ns : List ℕ) (a : ℕ) (gs : List ℕ) → all p gs ≡ true → ((g : ℕ) → p g ≡ true → get_or ns g 0 ≡ cap (f g)) →
    each (with_number ns) (cap a) gs ≡ cap (a + sum (map f gs))
capped_sum p f ns a gs h e =
    sum_of_numbers ns a gs ∙ ap (λ (n : ℕ). cap (a + n)) (sum_same p (λ g. get_or ns g 0) (λ g. cap (f g)) gs h e) ∙ cap_sum a f gs

-- ---- the greatest

pub cap_greatest : (f h : ℕ → ℕ) (xs : List ℕ) → ((x : ℕ) → f x ≡ cap (h x)) → greatest (map f xs) ≡ cap (greatest (map h xs))
unfolding cap greatest
cap_greatest f h [] e = refl
cap_greatest f h (x ∷ xs) e = omega (arith, e x, cap_greatest f h xs e)

pub cap_max : (a b x y : ℕ) → a ≡ cap x → b ≡ cap y → max a b ≡ cap (max x y)
unfolding cap
cap_max a b x y e f = omega arith
