-- Laws of loops over numbers in a row: a test of each, which ends at the first no; a step for each; an array filled place by place.
use Prim.Native.Nat.{ℕ, zero, suc, ◌+◌, ◌-◌, ◌≤◌, ◌<◌}
use mathlib.Core.Path.{◌≡◌, refl, sym, ap, ◌∙◌}
use mathlib.Core.Bool.{Bool, true, false, ◌&&◌}
use mathlib.Core.List.{List}
use native.Mathlib.Omega.{arith}
use lib.Dec.{eqb}
use lib.ListN.{length, get_or, set}
use lib.Seq.{get_or-set_same, get_or-set_other}
use borrow.Author.Tests.{eqb-true, eqb-false}
use Rattle.model.specs.Base.{all, each, from}
use Rattle.model.proofs.Lists.{from_first, from_none}

-- ---- a test of each of n numbers from 0 on

module _ (p : ℕ → Bool) (n : ℕ) where
  -- what is left to test at turn i
  unfoldable pub all_from : ℕ → Bool
  all_from i = all p (from i (n - i))

  pub all_first : all_from 0 ≡ all p (from 0 n)
  unfolding all_from
  all_first = let e : n - 0 ≡ n = omega arith in rw e

  turn : (i : ℕ) → i < n → all_from i ≡ (p i && all_from (i + 1))
  unfolding all_from all
  turn i h = ap (λ (r : List ℕ). all p r) (from_first i n h)

  pub all_next : (i : ℕ) (t x : Bool) → i < n → t ≡ p i → t ≡ true → all_from i ≡ x → all_from (i + 1) ≡ x
  all_next i t x h e y q = sym (turn i h ∙ ap (λ b. b && all_from (i + 1)) (sym e ∙ y)) ∙ q

  pub all_stop : (i : ℕ) (t x : Bool) → i < n → t ≡ p i → t ≡ false → all_from i ≡ x → false ≡ x
  all_stop i t x h e y q = sym (turn i h ∙ ap (λ b. b && all_from (i + 1)) (sym e ∙ y)) ∙ q

  pub all_last : (i : ℕ) (x : Bool) → n ≤ i → all_from i ≡ x → true ≡ x
  unfolding all_from all
  all_last i x h q = ap (λ (r : List ℕ). all p r) (sym (from_none i n h)) ∙ q

-- ---- a step for each of n numbers from a on

module _ {B : Type 0} (f : B → ℕ → B) (a n : ℕ) where
  -- what the state b comes to from turn k on
  unfoldable pub each_from : B → ℕ → B
  each_from b k = each f b (from (a + k) (n - k))

  pub each_first : (b : B) → each_from b 0 ≡ each f b (from a n)
  unfolding each_from
  each_first b =
      let p : a + 0 ≡ a = omega arith in
      let q : n - 0 ≡ n = omega arith in
      rw (p, q)

  pub each_next : (b b₁ x : B) (k : ℕ) → k < n → b₁ ≡ f b (a + k) → each_from b k ≡ x → each_from b₁ (k + 1) ≡ x
  unfolding each_from each from
  each_next b b₁ x k h e i =
      let p : n - k ≡ suc (n - (k + 1)) = omega arith in
      let q : a + (k + 1) ≡ suc (a + k) = omega arith in
      rw (e, q) (rw p at i)

  pub each_last : (b x : B) (k : ℕ) → n ≤ k → each_from b k ≡ x → b ≡ x
  unfolding each_from each from
  each_last b x k h i = let p : n - k ≡ 0 = omega arith in rw p at i

-- ---- an array filled from its first place on

-- place g is filled, as those before it are
pub fill_next :
    (f : ℕ → ℕ) (xs : List ℕ) (g v : ℕ) → g < length xs → v ≡ f g → ((h : ℕ) → h < g → get_or xs h 0 ≡ f h) →
    (h : ℕ) → h < g + 1 → get_or (set xs g v) h 0 ≡ f h
fill_next f xs g v l e a h m = go (eqb h g) refl
  where
    go : (b : Bool) → eqb h g ≡ b → get_or (set xs g v) h 0 ≡ f h
    go true q = let z : h ≡ g = eqb-true h g q in rw z (get_or-set_same xs g v 0 l ∙ e)
    go false q = get_or-set_other xs g h v 0 (eqb-false h g q) ∙ a h (omega (arith, eqb-false h g q))
