-- Where gates have numbers that fall from each gate to what it passes on to, as many rounds as there are gates place all.
use Prim.Native.Nat.{ℕ, zero, suc, ◌+◌, ◌≤◌, ◌<◌}
use mathlib.Core.Path.{◌≡◌, refl, sym, ap, subst, ◌∙◌}
use mathlib.Core.Bool.{Bool, true, false}
use mathlib.Core.List.{List, [], ◌∷◌}
use mathlib.Core.Logic.{◌⊎◌, inl, inr}
use native.Mathlib.Nat.{zero-add}
use native.Mathlib.Omega.{arith}
use lib.Dec.{ltb}
use lib.ListN.{length, get_or, get_or-eq_default}
use borrow.Author.Tests.{ltb-true, ltb-false, lt-ltb, le-ltb}
use Rattle.model.specs.Base.{if◌then◌otherwise◌, keep, all, among, from}
use Rattle.model.proofs.Lists.{clash, among_all, among_either, among_from, keep_most, from_length}
use Rattle.figures.specs.Figures.{placed}
use Rattle.figures.proofs.Rounds.{is_placed, placed_length, placed_at}

-- one more before two lists, of which one is longer
before_both :
    (a b : Bool) (d x : ℕ) (ks ls : List ℕ) → (a ≡ true → b ≡ true) → d + length ks ≤ length ls → d + length (if a then x ∷ ks otherwise ks) ≤ length (if b then x ∷ ls otherwise ls)
unfolding if◌then◌otherwise◌
before_both true true d x ks ls h l = omega (arith, l)
before_both true false d x ks ls h l = clash (h refl) refl
before_both false true d x ks ls h l = omega (arith, l)
before_both false false d x ks ls h l = l

-- those that pass p pass q, and one passes q alone: p keeps fewer
module _ (p q : ℕ → Bool) (too : (x : ℕ) → p x ≡ true → q x ≡ true) where
  no_fewer : (xs : List ℕ) → length (keep p xs) ≤ length (keep q xs)
  unfolding keep
  no_fewer [] = omega arith
  no_fewer (x ∷ xs) = omega (arith, before_both (p x) (q x) 0 x (keep p xs) (keep q xs) (too x) (omega (arith, no_fewer xs)))

  fewer : (xs : List ℕ) (x : ℕ) → among x xs ≡ true → p x ≡ false → q x ≡ true → length (keep p xs) < length (keep q xs)
  unfolding keep if◌then◌otherwise◌ among
  fewer [] x a e h = clash a refl
  fewer (y ∷ xs) x a e h = go (among_either x y xs a) (λ b. fewer xs x b e h)
    where
      go : (x ≡ y) ⊎ (among x xs ≡ true) → (among x xs ≡ true → length (keep p xs) < length (keep q xs)) → length (keep p (y ∷ xs)) < length (keep q (y ∷ xs))
      go (inl z) rec =
          let e' : p y ≡ false = ap p (sym z) ∙ e in
          let h' : q y ≡ true = ap q (sym z) ∙ h in
          rw (e', h') (omega (arith, no_fewer xs))
      go (inr b) rec = omega (arith, before_both (p y) (q y) 1 y (keep p xs) (keep q xs) (too y) (omega (arith, rec b)))

module _ (passed : List (List ℕ)) (number : ℕ → ℕ) (down : (g x : ℕ) → g < length passed → among x (get_or passed g []) ≡ true → number x < number g) where
  abbrev gates_here : List ℕ
  gates_here = from 0 (length passed)

  abbrev lower : ℕ → ℕ → Bool
  lower n x = ltb (number x) n

  -- how many gates have a number below n
  abbrev below : ℕ → ℕ
  below n = length (keep (lower n) gates_here)

  here : (x : ℕ) → x < length passed → among x gates_here ≡ true
  here x l = subst (λ (n : ℕ). among n gates_here ≡ true) (zero-add x) (among_from 0 (length passed) x l)

  fewer_below : (x g : ℕ) → x < length passed → number x < number g → below (number x) < below (number g)
  fewer_below x g l h =
      fewer (lower (number x)) (lower (number g)) (λ y e. lt-ltb (number y) (number g) (omega (arith, ltb-true (number y) (number x) e, h))) gates_here x (here x l)
      (le-ltb (number x) (number x) (omega arith)) (lt-ltb (number x) (number g) h)

  -- a gate that is not there is placed
  past_placed : (n x : ℕ) → length passed ≤ x → is_placed passed n x ≡ true
  past_placed n x l = get_or-eq_default (placed passed n) true (omega (arith, l, placed_length passed n))

  -- a gate is placed a round after those that have lower numbers
  next_placed : (k g : ℕ) → g < length passed → ((x : ℕ) → x < length passed → number x < number g → is_placed passed k x ≡ true) → is_placed passed (suc k) g ≡ true
  next_placed k g l rec = placed_at passed k g ∙ among_all (is_placed passed k) (get_or passed g []) (λ x a. go x (down g x l a) (ltb x (length passed)) refl)
    where
      go : (x : ℕ) → number x < number g → (b : Bool) → ltb x (length passed) ≡ b → is_placed passed k x ≡ true
      go x h true e = rec x (ltb-true x (length passed) e) h
      go x h false e = past_placed k x (ltb-false x (length passed) e)

  placed_by : (k g : ℕ) → g < length passed → below (number g) ≤ k → is_placed passed (suc k) g ≡ true
  placed_by zero g l b = next_placed 0 g l (λ x m h. absurd (omega (arith, fewer_below x g m h, b)))
  placed_by (suc k) g l b = next_placed (suc k) g l (λ x m h. placed_by k x m (omega (arith, fewer_below x g m h, b)))

  pub down_placed : (g : ℕ) → is_placed passed (length passed) g ≡ true
  down_placed g = go (ltb g (length passed)) refl (length passed) refl
    where
      few : g < length passed → below (number g) < length passed
      few l =
          omega (
            arith,
            fewer (lower (number g)) (λ _. true) (λ _ _. refl) gates_here g (here g l) (le-ltb (number g) (number g) (omega arith)) refl,
            keep_most (λ _. true) gates_here,
            from_length 0 (length passed),
          )

      go : (b : Bool) → ltb g (length passed) ≡ b → (n : ℕ) → length passed ≡ n → is_placed passed n g ≡ true
      go false e n z = past_placed n g (ltb-false g (length passed) e)
      go true e zero z = absurd (omega (arith, z, ltb-true g (length passed) e))
      go true e (suc n) z = let l = ltb-true g (length passed) e in placed_by n g l (omega (arith, few l, z))
