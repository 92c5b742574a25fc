-- Chains over a range of numbers: the library's lists are those of the definitions.
use Prim.Native.Nat.{ℕ, zero, suc, ◌+◌}
use mathlib.Core.Path.{◌≡◌, refl, ap, ◌∙◌}
use mathlib.Core.Bool.{Bool, ◌&&◌}
use mathlib.Core.List.{List, [], ◌∷◌}
use native.Mathlib.Omega.{arith}
use Rattle.std.specs.List.{list_all, range_with_len}
use Rattle.model.specs.Base.{all, from}

pub range_is : (a n : ℕ) → range_with_len a n ≡ from a n
unfolding from
range_is a zero = refl
range_is a (suc n) =
    let e : a + 1 ≡ suc a = omega arith in
    rw e (ap (λ (r : List ℕ). a ∷ r) (range_is (suc a) n))

pub all_is : (p : ℕ → Bool) (xs : List ℕ) → list_all p xs ≡ all p xs
unfolding all
all_is p [] = refl
all_is p (x ∷ xs) = ap (λ (b : Bool). p x && b) (all_is p xs)

-- what `(0..n).all` answers
pub range_all : (p : ℕ → Bool) (n : ℕ) (r : Bool) → r ≡ list_all p (range_with_len 0 n) → r ≡ all p (from 0 n)
range_all p n r e = e ∙ all_is p (range_with_len 0 n) ∙ ap (all p) (range_is 0 n)
