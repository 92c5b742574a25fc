-- Loops over columns of words. A loop's invariant says that finishing from here gives the same as finishing from the start.
use Prim.Native.Nat.{ℕ, suc, ◌+◌, ◌-◌, ◌*◌, ◌≤◌, ◌<◌}
use mathlib.Core.Path.{◌≡◌, refl, sym, ap, ◌∙◌}
use mathlib.Core.Bool.{Bool, true, false, ◌&&◌}
use mathlib.Core.List.{List, [], ◌∷◌, map, map-id}
use native.Mathlib.Omega.{arith}
use lib.Dec.{eqb, leb, leb-zero}
use lib.ListN.{length, get_or, drop, get_or-eq_default}
use lib.Seq.{drop-cons, get_or-take, get_or-drop}
use borrow.Author.Tests.{leb-true}
use Rattle.std.specs.Prelude.{Option, Some, None}
use Rattle.std.specs.Bool.{then_some}
use Rattle.std.specs.Option.{MatchOption}
use Rattle.words.specs.Words.{words}
use Rattle.words.proofs.Laws.{words_long}
use Rattle.model.specs.Base.{if◌then◌otherwise◌, all, both, keep, sum}
use Rattle.model.specs.Value.{bit}
use Rattle.model.specs.Circuit.{part}
use Rattle.model.specs.Questions.{within, yes_all}
use Rattle.model.proofs.Laid.{part_most}

-- ---- a column

-- What is left of the n words from word k on, when i of them are passed.
unfoldable pub left : List ℕ → ℕ → ℕ → ℕ → List ℕ
left ws k n i = part ws (k + i) (n - i)

pub left_first : (ws : List ℕ) (k n : ℕ) → left ws k n 0 ≡ part ws k n
unfolding left
left_first ws k n = let a : k + 0 ≡ k = omega arith in let b : n - 0 ≡ n = omega arith in rw (a, b)

pub left_next : (s : List ℕ) (k n i : ℕ) → (k + n) * 8 ≤ length s → i < n → left (words s) k n i ≡ get_or (words s) (k + i) 0 ∷ left (words s) k n (i + 1)
unfolding left part
left_next s k n i l h =
    let a : n - i ≡ suc (n - (i + 1)) = omega arith in
    let b : k + (i + 1) ≡ suc (k + i) = omega arith in
    rw (a, b, drop-cons (words s) (k + i) 0 (omega (arith, words_long (k + n) s l)))

pub left_last : (ws : List ℕ) (k n i : ℕ) → n ≤ i → left ws k n i ≡ []
unfolding left part
left_last ws k n i l = let a : n - i ≡ 0 = omega arith in rw a

pub part_at : (ws : List ℕ) (k n i : ℕ) → i < n → get_or ws (k + i) 0 ≡ get_or (part ws k n) i 0
unfolding part
part_at ws k n i h = sym (get_or-take n (drop k ws) i 0 h ∙ get_or-drop k ws i 0)

pub part_past : (ws : List ℕ) (k n i : ℕ) → n ≤ i → 0 ≡ get_or (part ws k n) i 0
part_past ws k n i h = sym (get_or-eq_default (part ws k n) 0 {n = i} (omega (arith, part_most ws k n)))

-- ---- tests

-- From 0 on only the upper bound is a test.
pub within_zero : (high w : ℕ) → within 0 high w ≡ leb w high
unfolding within
within_zero high w = rw (leb-zero w)

-- ---- a test of each word

module _ (p : ℕ → Bool) (s : List ℕ) (k n : ℕ) where
  pub all_first : all p (left (words s) k n 0) ≡ all p (part (words s) k n)
  all_first = ap (all p) (left_first (words s) k n)

  all_split : (i w : ℕ) (t : Bool) → (k + n) * 8 ≤ length s → i < n → w ≡ get_or (words s) (k + i) 0 → t ≡ p w
      → all p (left (words s) k n i) ≡ (t && all p (left (words s) k n (i + 1)))
  unfolding all
  all_split i w t l h e q = rw (left_next s k n i l h, q, e)

  pub all_next : (i w : ℕ) (t x : Bool) → (k + n) * 8 ≤ length s → all p (left (words s) k n i) ≡ x → i < n → w ≡ get_or (words s) (k + i) 0 → t ≡ p w → t ≡ true
      → all p (left (words s) k n (i + 1)) ≡ x
  all_next i w t x l v h e q y = sym (all_split i w t l h e q ∙ rw y) ∙ v

  pub all_stop : (i w : ℕ) (t x : Bool) → (k + n) * 8 ≤ length s → all p (left (words s) k n i) ≡ x → i < n → w ≡ get_or (words s) (k + i) 0 → t ≡ p w → t ≡ false
      → false ≡ x
  all_stop i w t x l v h e q y = sym (all_split i w t l h e q ∙ rw y) ∙ v

  pub all_last : (i : ℕ) (x : Bool) → all p (left (words s) k n i) ≡ x → n ≤ i → true ≡ x
  unfolding all
  all_last i x v l = sym (ap (all p) (left_last (words s) k n i l)) ∙ v

-- Two tests that agree.
pub all_alike : (p q : ℕ → Bool) → ((x : ℕ) → p x ≡ q x) → (xs : List ℕ) → all p xs ≡ all q xs
unfolding all
all_alike p q e [] = refl
all_alike p q e (x ∷ xs) = rw (e x, all_alike p q e xs)

-- ---- a test of two columns side by side

module _ (f : ℕ → ℕ → Bool) (s : List ℕ) (k m n : ℕ) where
  -- whether the pairs that are left, when i are passed, pass the test
  abbrev pub pairs : ℕ → Bool
  pairs i = yes_all (both f (left (words s) k n i) (left (words s) m n i))

  pub pairs_first : pairs 0 ≡ yes_all (both f (part (words s) k n) (part (words s) m n))
  pairs_first = rw (left_first (words s) k n, left_first (words s) m n)

  pairs_split : (i v w : ℕ) (t : Bool) → (k + n) * 8 ≤ length s → (m + n) * 8 ≤ length s → i < n → v ≡ get_or (words s) (k + i) 0 → w ≡ get_or (words s) (m + i) 0 → t ≡ f v w
      → pairs i ≡ (t && pairs (i + 1))
  unfolding yes_all all both
  pairs_split i v w t l l' h e e' q = rw (left_next s k n i l h, left_next s m n i l' h, q, e, e')

  pub pairs_next : (i v w : ℕ) (t x : Bool) → (k + n) * 8 ≤ length s → (m + n) * 8 ≤ length s → pairs i ≡ x → i < n → v ≡ get_or (words s) (k + i) 0 → w ≡ get_or (words s) (m + i) 0
      → t ≡ f v w → t ≡ true → pairs (i + 1) ≡ x
  pairs_next i v w t x l l' a h e e' q y = sym (pairs_split i v w t l l' h e e' q ∙ rw y) ∙ a

  pub pairs_stop : (i v w : ℕ) (t x : Bool) → (k + n) * 8 ≤ length s → (m + n) * 8 ≤ length s → pairs i ≡ x → i < n → v ≡ get_or (words s) (k + i) 0 → w ≡ get_or (words s) (m + i) 0
      → t ≡ f v w → t ≡ false → false ≡ x
  pairs_stop i v w t x l l' a h e e' q y = sym (pairs_split i v w t l l' h e e' q ∙ rw y) ∙ a

  pub pairs_last : (i : ℕ) (x : Bool) → pairs i ≡ x → n ≤ i → true ≡ x
  unfolding yes_all all both
  pairs_last i x a l = rw (left_last (words s) k n i l, left_last (words s) m n i l) at a

-- ---- a test of each word, and what they come to

-- what they come to with `total`, where each passes
unfoldable pub tally : (ℕ → Bool) → (ℕ → ℕ) → ℕ → List ℕ → Option ℕ
tally p f total xs = then_some (all p xs) (total + sum (map f xs))

module _ (p : ℕ → Bool) (f : ℕ → ℕ) (s : List ℕ) (k n : ℕ) where
  pub tally_first : tally p f 0 (left (words s) k n 0) ≡ then_some (all p (part (words s) k n)) (sum (map f (part (words s) k n)))
  unfolding tally
  tally_first = let z : 0 + sum (map f (part (words s) k n)) ≡ sum (map f (part (words s) k n)) = omega arith in rw (left_first (words s) k n, z)

  tally_split : (i w total : ℕ) (o : Option ℕ) → (k + n) * 8 ≤ length s → i < n → w ≡ get_or (words s) (k + i) 0 → o ≡ then_some (p w) (f w)
      → MatchOption o (None ≡ tally p f total (left (words s) k n i)) (λ v. tally p f (total + v) (left (words s) k n (i + 1)) ≡ tally p f total (left (words s) k n i))
  unfolding tally all sum
  tally_split i w total o l h e q = rw (left_next s k n i l h, ← e, q) (go (p w))
    where
      go : (b : Bool) → MatchOption (then_some b (f w)) (None ≡ then_some (b && all p (left (words s) k n (i + 1))) (total + (f w + sum (map f (left (words s) k n (i + 1))))))
          (λ v. then_some (all p (left (words s) k n (i + 1))) (total + v + sum (map f (left (words s) k n (i + 1)))) ≡ then_some (b && all p (left (words s) k n (i + 1))) (total + (f w + sum (map f (left (words s) k n (i + 1))))))
      go true = let z : total + f w + sum (map f (left (words s) k n (i + 1))) ≡ total + (f w + sum (map f (left (words s) k n (i + 1)))) = omega arith in rw z
      go false = refl

  pub tally_next : (i w total v : ℕ) (o x : Option ℕ) → (k + n) * 8 ≤ length s → tally p f total (left (words s) k n i) ≡ x → i < n → w ≡ get_or (words s) (k + i) 0
      → o ≡ then_some (p w) (f w) → o ≡ Some v → tally p f (total + v) (left (words s) k n (i + 1)) ≡ x
  tally_next i w total v o x l a h e q y = rw y at (tally_split i w total o l h e q) ∙ a

  pub tally_stop : (i w total : ℕ) (o x : Option ℕ) → (k + n) * 8 ≤ length s → tally p f total (left (words s) k n i) ≡ x → i < n → w ≡ get_or (words s) (k + i) 0
      → o ≡ then_some (p w) (f w) → o ≡ None → None ≡ x
  tally_stop i w total o x l a h e q y = rw y at (tally_split i w total o l h e q) ∙ a

  pub tally_last : (i total : ℕ) (x : Option ℕ) → tally p f total (left (words s) k n i) ≡ x → n ≤ i → Some total ≡ x
  unfolding tally all sum
  tally_last i total x a l =
      let z : total + 0 ≡ total = omega arith in
      rw (left_last (words s) k n i l, z) at a

-- where each passes they come to x, and otherwise to nothing
pub comes_to : (b : Bool) (s m x : ℕ) (o : Option ℕ) → o ≡ then_some b s → o ≡ Some x → eqb x m ≡ (b && eqb s m)
comes_to true s m x o e h = let z : x ≡ s = cc in rw z
comes_to false s m x o e h = let z : ◌≡◌ {A = ℕ} 0 1 = cc in absurd (omega arith)

pub comes_not : (b : Bool) (s m : ℕ) (o : Option ℕ) → o ≡ then_some b s → o ≡ None → false ≡ (b && eqb s m)
comes_not true s m o e h = let z : ◌≡◌ {A = ℕ} 0 1 = cc in absurd (omega arith)
comes_not false s m o e h = refl

-- the words themselves added up
pub plain_sum : (p : ℕ → Bool) (xs : List ℕ) (m : ℕ) → (all p xs && eqb (sum (map (λ n. n) xs)) m) ≡ (all p xs && eqb (sum xs) m)
plain_sum p xs m = ap (λ (ys : List ℕ). all p xs && eqb (sum ys) m) (map-id xs)

-- what is counted is as small as what counts
pub counted_small : (b : Bool) (x n m : ℕ) → x ≤ m → Some n ≡ then_some b x → n ≤ m
counted_small true x n m l e = let z : n ≡ x = cc in omega arith
counted_small false x n m l e = let z : ◌≡◌ {A = ℕ} 0 1 = cc in absurd (omega arith)

pub within_small : (high w n : ℕ) → Some n ≡ then_some (within 0 high w) w → n ≤ high
within_small high w n = go (within 0 high w) refl
  where
    go : (b : Bool) → within 0 high w ≡ b → Some n ≡ then_some b w → n ≤ high
    go true e h =
        let z : n ≡ w = cc in
        omega (arith, leb-true w high (sym (within_zero high w) ∙ e))
    go false e h = let z : ◌≡◌ {A = ℕ} 0 1 = cc in absurd (omega arith)

-- ---- how many words pass a test

module _ (p : ℕ → Bool) (s : List ℕ) (k n : ℕ) where
  -- how many of the words that are left, when i are passed, pass the test
  abbrev pub passing : ℕ → ℕ
  passing i = length (keep p (left (words s) k n i))

  pub count_first : passing 0 ≡ length (keep p (part (words s) k n))
  count_first = ap (λ (xs : List ℕ). length (keep p xs)) (left_first (words s) k n)

  count_split : (i w : ℕ) (t : Bool) → (k + n) * 8 ≤ length s → i < n → w ≡ get_or (words s) (k + i) 0 → t ≡ p w → passing i ≡ bit t + passing (i + 1)
  unfolding keep if◌then◌otherwise◌ bit
  count_split i w t l h e q = rw (left_next s k n i l h, ← e, ← q) (go t)
    where
      go : (t : Bool) → length (if t then w ∷ keep p (left (words s) k n (i + 1)) otherwise keep p (left (words s) k n (i + 1))) ≡ bit t + length (keep p (left (words s) k n (i + 1)))
      go true = omega arith
      go false = omega arith

  pub count_yes : (i w c c' x : ℕ) (t : Bool) → (k + n) * 8 ≤ length s → c + passing i ≡ x → i < n → w ≡ get_or (words s) (k + i) 0 → t ≡ p w → t ≡ true → c' ≡ c + 1
      → c' + passing (i + 1) ≡ x
  unfolding bit
  count_yes i w c c' x t l a h e q y z = let b : passing i ≡ 1 + passing (i + 1) = count_split i w t l h e q ∙ rw y in omega arith

  pub count_no : (i w c c' x : ℕ) (t : Bool) → (k + n) * 8 ≤ length s → c + passing i ≡ x → i < n → w ≡ get_or (words s) (k + i) 0 → t ≡ p w → t ≡ false → c' ≡ c
      → c' + passing (i + 1) ≡ x
  unfolding bit
  count_no i w c c' x t l a h e q y z = let b : passing i ≡ 0 + passing (i + 1) = count_split i w t l h e q ∙ rw y in omega arith

  pub count_last : (i c x : ℕ) → c + passing i ≡ x → n ≤ i → c ≡ x
  unfolding keep
  count_last i c x a l = let b : passing i ≡ 0 = rw (left_last (words s) k n i l) in omega arith
