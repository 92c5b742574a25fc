-- Rows of eight values: what is looked at.
use Prim.Native.Nat.{ℕ, suc, ◌+◌}
use mathlib.Core.Path.{◌≡◌, ◌∙◌}
use mathlib.Core.List.{[], ◌∷◌, map}
use native.Mathlib.Omega.{arith}
use Rattle.model.specs.declared.Value.{Value}
use Rattle.model.specs.Base.{from}

-- eight numbers in a row
pub eight : (f : ℕ → Value) (i : ℕ) → f i ∷ f (i + 1) ∷ f (i + 2) ∷ f (i + 3) ∷ f (i + 4) ∷ f (i + 5) ∷ f (i + 6) ∷ f (i + 7) ∷ [] ≡ map f (from i 8)
unfolding from
eight f i =
    let p₁ : i + 1 ≡ suc i = omega arith in
    let p₂ : i + 2 ≡ suc (suc i) = omega arith in
    let p₃ : i + 3 ≡ suc (suc (suc i)) = omega arith in
    let p₄ : i + 4 ≡ suc (suc (suc (suc i))) = omega arith in
    let p₅ : i + 5 ≡ suc (suc (suc (suc (suc i)))) = omega arith in
    let p₆ : i + 6 ≡ suc (suc (suc (suc (suc (suc i))))) = omega arith in
    let p₇ : i + 7 ≡ suc (suc (suc (suc (suc (suc (suc i)))))) = omega arith in
    λ j. f i ∷ f (p₁ j) ∷ f (p₂ j) ∷ f (p₃ j) ∷ f (p₄ j) ∷ f (p₅ j) ∷ f (p₆ j) ∷ f (p₇ j) ∷ []

-- what eight inputs read
pub row_read :
    (f : ℕ → Value) (i : ℕ) (v₀ v₁ v₂ v₃ v₄ v₅ v₆ v₇ : Value) → v₀ ≡ f i → v₁ ≡ f (i + 1) → v₂ ≡ f (i + 2) → v₃ ≡ f (i + 3) → v₄ ≡ f (i + 4) → v₅ ≡ f (i + 5) → v₆ ≡ f (i + 6) → v₇ ≡ f (i + 7) →
    v₀ ∷ v₁ ∷ v₂ ∷ v₃ ∷ v₄ ∷ v₅ ∷ v₆ ∷ v₇ ∷ [] ≡ map f (from i 8)
row_read f i v₀ v₁ v₂ v₃ v₄ v₅ v₆ v₇ e₀ e₁ e₂ e₃ e₄ e₅ e₆ e₇ = (λ j. e₀ j ∷ e₁ j ∷ e₂ j ∷ e₃ j ∷ e₄ j ∷ e₅ j ∷ e₆ j ∷ e₇ j ∷ []) ∙ eight f i
