-- Loops that fill cells one after the other, or part after part, and running sums: what holds at the beginning, after one more turn, and at the end.
use Prim.Native.Nat.{ℕ, zero, suc, ◌+◌, ◌-◌, ◌*◌, ◌≤◌, ◌<◌}
use mathlib.Core.Path.{◌≡◌, refl, sym, ap, ◌∙◌}
use mathlib.Core.Bool.{Bool, true, false}
use mathlib.Core.List.{List, [], ◌∷◌, ◌++◌, map}
use native.Mathlib.Nat.{add-zero, sub-zero}
use native.Mathlib.Omega.{arith}
use borrow.Author.Tests.{leb-true, leb-false}
use lib.Dec.{leb}
use lib.ListN.{length, set}
use lib.Seq.{sets}
use Rattle.model.specs.Base.{joined, from}
use Rattle.model.proofs.Lists.{from_first, from_none}
use Rattle.links.specs.Links.{listed}
use Rattle.linking.specs.Building.{written, below}

-- ---- one cell after the other: what is left to write

module _ (f : ℕ → ℕ) (base n : ℕ) where
  pub cells_first : (l : List ℕ) → sets l (base + 0) (map f (from 0 (n - 0))) ≡ written l base n f
  unfolding listed
  cells_first l = rw (add-zero base, sub-zero n)

  pub cells_next :
      (l l₁ r : List ℕ) (k v : ℕ) → k < n → v ≡ f k → l₁ ≡ set l (base + k) v → sets l (base + k) (map f (from k (n - k))) ≡ r →
      sets l₁ (base + (k + 1)) (map f (from (k + 1) (n - (k + 1)))) ≡ r
  cells_next l l₁ r k v h e e₁ q =
      let s : base + (k + 1) ≡ suc (base + k) = omega arith in
      rw (e₁, e, s) (rw (from_first k n h) at q)

  pub cells_last : (l r : List ℕ) (k : ℕ) → n ≤ k → sets l (base + k) (map f (from k (n - k))) ≡ r → l ≡ r
  cells_last l r k h q = rw (from_none k n h) at q

-- ---- a running sum

module _ (f : ℕ → ℕ) where
  pub below_first : (k : ℕ) → k ≡ 0 → 0 ≡ below f k
  unfolding below
  below_first k e = rw e

  pub below_next : (x v k : ℕ) → x ≡ below f k → v ≡ f k → x + v ≡ below f (k + 1)
  unfolding below
  below_next x v k e d =
      let s : k + 1 ≡ suc k = omega arith in
      rw (e, d, s)

  pub below_last : (x k n : ℕ) → x ≡ below f k → k ≤ n → n ≤ k → x ≡ below f n
  below_last x k n e h l =
      let s : k ≡ n = omega arith in
      e ∙ ap (below f) s

  pub below_most : (m : ℕ) → ((k : ℕ) → f k ≤ m) → (k : ℕ) → below f k ≤ m * k
  unfolding below
  below_most m h zero = omega arith
  below_most m h (suc k) = let q = below_most m h k in let t = h k in omega arith

-- what lies below is no more than the whole
pub below_mono : (f : ℕ → ℕ) (k n : ℕ) → k ≤ n → below f k ≤ below f n
unfolding below
below_mono f k zero h = let e : k ≡ 0 = omega arith in rw e (omega arith)
below_mono f k (suc n) h = go (leb k n) refl (λ l. below_mono f k n l)
  where
    go : (b : Bool) → leb k n ≡ b → (k ≤ n → below f k ≤ below f n) → below f k ≤ below f n + f n
    go true e rec = let q = rec (leb-true k n e) in omega arith
    go false e rec = let l = leb-false k n e in let s : k ≡ suc n = omega arith in rw s (omega arith)

-- sums of sums, and of equal numbers
pub below_add : (f g : ℕ → ℕ) (m : ℕ) → below (λ o. f o + g o) m ≡ below f m + below g m
unfolding below
below_add f g zero = omega arith
below_add f g (suc m) = omega (arith, below_add f g m)

pub below_same : (f g : ℕ → ℕ) (m : ℕ) → ((o : ℕ) → o < m → f o ≡ g o) → below f m ≡ below g m
unfolding below
below_same f g zero h = refl
below_same f g (suc m) h = let q = below_same f g m (λ o l. h o (omega arith)) in let t = h m (omega arith) in omega arith

-- ---- one part after the other: what is left to write

-- first the one list, then the other behind it
sets_append : (l : List ℕ) (i : ℕ) (xs ys : List ℕ) → sets l i (xs ++ ys) ≡ sets (sets l i xs) (i + length xs) ys
sets_append l i [] ys = ap (λ (k : ℕ). sets l k ys) (sym (add-zero i))
sets_append l i (x ∷ xs) ys =
    let e : suc i + length xs ≡ i + suc (length xs) = omega arith in
    sets_append (set l i x) (suc i) xs ys ∙ ap (λ (k : ℕ). sets (sets (set l i x) (suc i) xs) k ys) e

module _ (part : ℕ → List ℕ) (base n : ℕ) where
  pub parts_first : (l : List ℕ) → sets l (base + 0) (joined (map part (from 0 (n - 0)))) ≡ sets l base (joined (listed n part))
  unfolding listed
  parts_first l = rw (add-zero base, sub-zero n)

  pub parts_next :
      (l l₁ r : List ℕ) (k i m : ℕ) → k < n → m ≡ length (part k) → l₁ ≡ sets l (base + i) (part k) → sets l (base + i) (joined (map part (from k (n - k)))) ≡ r →
      sets l₁ (base + (i + m)) (joined (map part (from (k + 1) (n - (k + 1))))) ≡ r
  unfolding joined
  parts_next l l₁ r k i m h e e₁ q =
      let s : base + (i + length (part k)) ≡ base + i + length (part k) = omega arith in
      rw (e₁, e, s) (sym (sets_append l (base + i) (part k) (joined (map part (from (k + 1) (n - (k + 1)))))) ∙ (rw (from_first k n h) at q))

  pub parts_last : (l r : List ℕ) (k i : ℕ) → n ≤ k → sets l (base + i) (joined (map part (from k (n - k)))) ≡ r → l ≡ r
  unfolding joined
  parts_last l r k i h q = rw (from_none k n h) at q
