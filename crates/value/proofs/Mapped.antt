-- Rows of values, by the words of their kinds and of their contents.
use Prim.Native.Nat.{ℕ, suc, ◌<◌}
use native.Mathlib.Omega.{arith}
use mathlib.Core.Path.{◌≡◌, refl, ap₂, ◌∙◌}
use mathlib.Core.List.{List, [], ◌∷◌}
use lib.ListN.{length, get_or}
use Rattle.model.specs.declared.Value.{Value}
use Rattle.model.specs.declared.Value.TheVariants.{Nothing}
use Rattle.model.specs.Base.{both}
use Rattle.model.specs.Value.{kind_of, content_of, value_of}
use Rattle.value.proofs.Laws.{made_again}

made : (vs : List Value) (ks cs : List ℕ) → length ks ≡ length vs → length cs ≡ length vs → ((j : ℕ) → j < length vs → get_or ks j 0 ≡ kind_of (get_or vs j Nothing))
    → ((j : ℕ) → j < length vs → get_or cs j 0 ≡ content_of (get_or vs j Nothing)) → both value_of ks cs ≡ vs
unfolding both
made [] [] [] a b h k = refl
made [] [] (x ∷ cs) a b h k = absurd (omega arith)
made [] (x ∷ ks) cs a b h k = absurd (omega arith)
made (v ∷ vs) [] cs a b h k = absurd (omega arith)
made (v ∷ vs) (x ∷ ks) [] a b h k = absurd (omega arith)
made (v ∷ vs) (x ∷ ks) (y ∷ cs) a b h k =
    let first : value_of x y ≡ v = ap₂ value_of (h 0 (omega arith)) (k 0 (omega arith)) ∙ made_again v in
    let rest = made vs ks cs (omega arith) (omega arith) (λ j l. h (suc j) (omega arith)) (λ j l. k (suc j) (omega arith)) in
    λ j. first j ∷ rest j

-- the kinds and the contents of n values make them again
pub row_again : (n : ℕ) (vs : List Value) (ks cs : List ℕ) → length vs ≡ n → length ks ≡ n → length cs ≡ n → ((j : ℕ) → j < n → get_or ks j 0 ≡ kind_of (get_or vs j Nothing))
    → ((j : ℕ) → j < n → get_or cs j 0 ≡ content_of (get_or vs j Nothing)) → both value_of ks cs ≡ vs
row_again n vs ks cs lv lk lc h k = made vs ks cs (omega arith) (omega arith) (λ j l. h j (omega arith)) (λ j l. k j (omega arith))
