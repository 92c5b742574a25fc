-- Bytes and words compared, and one test after another.
use Prim.Native.Nat.{ℕ, suc}
use mathlib.Core.Path.{◌≡◌, refl, ap, ◌∙◌}
use mathlib.Core.Bool.{Bool, true, false, not, ◌&&◌}
use mathlib.Core.List.{List, [], ◌∷◌}
use lib.Dec.{eqb}
use lib.ListN.{length}
use lib.Pointwise.{pointwise}
use Rattle.packed.specs.Same.{same}

-- ---- one test after another

-- a test that fails decides
pub and_left : (t a b : Bool) → t ≡ a → not t ≡ true → false ≡ (a && b)
and_left true a b e h = cc
and_left false a b e h = ap (λ (x : Bool). x && b) e

-- where it holds, the next decides
pub and_right : (t u a b : Bool) → t ≡ a → not t ≡ false → u ≡ b → u ≡ (a && b)
and_right true u a b e h q = q ∙ ap (λ (x : Bool). x && b) e
and_right false u a b e h q = cc

and_none : (a : Bool) → false ≡ (a && false)
and_none true = refl
and_none false = refl

-- ---- bytes that are the same

-- `==` of slices
pub same_is : (a c : List ℕ) → pointwise eqb a c ≡ same a c
unfolding same
same_is [] [] = refl
same_is [] (y ∷ c) = refl
same_is (x ∷ a) [] = refl
same_is (x ∷ a) (y ∷ c) = ap (λ (t : Bool). eqb x y && t) (same_is a c)

-- lists of two lengths
pub same_other : (a c : List ℕ) → (length c ≡ length a → ⊥) → false ≡ same a c
unfolding same
same_other [] [] h = absurd (h refl)
same_other [] (y ∷ c) h = refl
same_other (x ∷ a) [] h = refl
same_other (x ∷ a) (y ∷ c) h = and_none (eqb x y) ∙ ap (λ (t : Bool). eqb x y && t) (same_other a c (λ e. h (ap suc e)))
