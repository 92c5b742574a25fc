-- A list that has each of its members once, all of them among some others, is no longer than those.
use mathlib.Core.Path.{◌≡◌, refl, sym, ap, ◌∙◌}
use mathlib.Core.Bool.{Bool, true, false, not, ◌||◌, true≢false}
use mathlib.Core.List.{List, [], ◌∷◌, map}
use Prim.Native.Nat.{ℕ, zero, suc, ◌≤◌, ◌<◌}
use native.Mathlib.Omega.{arith}
use lib.Dec.{eqb}
use lib.ListN.{length}
use borrow.Author.Tests.{eqb-true, eq-eqb}
use Rattle.model.specs.Base.{if◌then◌otherwise◌, keep, snoc, among}
use Rattle.model.proofs.Lists.{either_false, snoc_length}

-- made by adding one at a time that is among `all` and was not there
pub data Once (all : List ℕ) : List ℕ → Type 0 where
  empty : Once all []
  added : {xs : List ℕ} (x : ℕ) → Once all xs → among x all ≡ true → among x xs ≡ false → Once all (snoc xs x)

-- ---- membership

among_snoc : (x : ℕ) (xs : List ℕ) (y : ℕ) → among x (snoc xs y) ≡ false → (among x xs ≡ false) × (eqb x y ≡ false)
unfolding among snoc
among_snoc x [] y e = (refl, (either_false (eqb x y) false e).0)
among_snoc x (z ∷ xs) y e =
    let a = either_false (eqb x z) (among x (snoc xs y)) e in
    let b = among_snoc x xs y a.1 in
    (rw a.0 b.0, b.1)

-- the others, without x
unfoldable others : ℕ → List ℕ → List ℕ
others x ys = keep (λ y. not (eqb x y)) ys

others_most : (x : ℕ) (ys : List ℕ) → length (others x ys) ≤ length ys
unfolding others keep if◌then◌otherwise◌
others_most x [] = omega arith
others_most x (y ∷ ys) = go (eqb x y) (others_most x ys)
  where
    go : (b : Bool) → length (others x ys) ≤ length ys → length (if not b then y ∷ others x ys otherwise others x ys) ≤ suc (length ys)
    go true h = omega (arith, h)
    go false h = omega (arith, h)

others_fewer : (x : ℕ) (ys : List ℕ) → among x ys ≡ true → length (others x ys) < length ys
unfolding others keep among if◌then◌otherwise◌
others_fewer x [] e = absurd (true≢false (sym e))
others_fewer x (y ∷ ys) e = go (eqb x y) e (λ h. others_fewer x ys h)
  where
    go :
        (b : Bool) → (b || among x ys) ≡ true → (among x ys ≡ true → length (others x ys) < length ys) →
        length (if not b then y ∷ others x ys otherwise others x ys) < suc (length ys)
    go true e rec = omega (arith, others_most x ys)
    go false e rec = omega (arith, rec e)

-- another one is still among them
others_keep : (x z : ℕ) (ys : List ℕ) → eqb x z ≡ false → among z ys ≡ true → among z (others x ys) ≡ true
unfolding others keep among if◌then◌otherwise◌
others_keep x z [] f e = e
others_keep x z (y ∷ ys) f e = go (eqb x y) refl (eqb z y) refl e (λ h. others_keep x z ys f h)
  where
    go :
        (b : Bool) → eqb x y ≡ b → (a : Bool) → eqb z y ≡ a → (a || among z ys) ≡ true → (among z ys ≡ true → among z (others x ys) ≡ true) →
        among z (if not b then y ∷ others x ys otherwise others x ys) ≡ true
    go true g true h e rec = absurd (true≢false (sym g ∙ sym (ap (λ (k : ℕ). eqb x k) (eqb-true z y h)) ∙ f))
    go true g false h e rec = rec e
    go false g true h e rec = rw h
    go false g false h e rec = rw h (rec e)

once_others : (all xs : List ℕ) (x : ℕ) → Once all xs → among x xs ≡ false → Once (others x all) xs
once_others all xs x empty e = empty
once_others all xs x (added {xs = ys} y o m n) e =
    let a = among_snoc x ys y e in
    added y (once_others all ys x o a.0) (others_keep x y all a.1 m) n

once_most : (n : ℕ) (all xs : List ℕ) → length xs ≡ n → Once all xs → n ≤ length all
once_most zero all xs e o = omega arith
once_most (suc n) all xs e empty = absurd (omega (arith, e))
once_most (suc n) all xs e (added {xs = ys} y o m f) =
    omega (arith, once_most n (others y all) ys (omega (arith, e, snoc_length ys y)) (once_others all ys y o f), others_fewer y all m)

-- no longer than `all`
pub once_length : {all xs : List ℕ} → Once all xs → length xs ≤ length all
once_length {all} {xs} o = once_most (length xs) all xs refl o

-- one that can be added finds room
pub once_room : {all xs : List ℕ} (x : ℕ) → Once all xs → among x all ≡ true → among x xs ≡ false → length xs < length all
once_room {all} {xs} x o m n = omega (arith, once_length (added x o m n), snoc_length xs x)

-- what they are taken to
pub among_map : (f : ℕ → ℕ) (x : ℕ) (xs : List ℕ) → among x xs ≡ true → among (f x) (map f xs) ≡ true
unfolding among
among_map f x [] e = e
among_map f x (y ∷ ys) e = go (eqb x y) refl e (λ h. among_map f x ys h)
  where
    go : (b : Bool) → eqb x y ≡ b → (b || among x ys) ≡ true → (among x ys ≡ true → among (f x) (map f ys) ≡ true) → (eqb (f x) (f y) || among (f x) (map f ys)) ≡ true
    go true g e rec = rw (eq-eqb (f x) (f y) (ap f (eqb-true x y g)))
    go false g e rec = right (eqb (f x) (f y)) (rec e)
      where
        right : (a : Bool) {b : Bool} → b ≡ true → (a || b) ≡ true
        right true h = refl
        right false h = h
