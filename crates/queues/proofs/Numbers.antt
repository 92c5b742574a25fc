-- The numbers of the Queues: each Queue has its own, and all are below their count.
use Prim.Native.Nat.{ℕ, zero, suc, ◌≤◌, ◌<◌, min}
use mathlib.Core.Path.{◌≡◌, refl, sym, ap, ◌∙◌, subst}
use mathlib.Core.Bool.{Bool, true, false}
use mathlib.Core.List.{List, [], ◌∷◌}
use native.Mathlib.Omega.{arith}
use borrow.Author.Tests.{leb-true, leb-false}
use lib.Dec.{T, leb}
use lib.ListN.{length, get_or, take, length-take, get_or-eq_default}
use lib.Seq.{get_or-take, take-take}
use Rattle.model.specs.Base.{if◌then◌otherwise◌, keep, from}
use Rattle.model.specs.Circuit.{Circuit, kind_of_gate, gates_of, gates_such}
use Rattle.model.specs.Questions.{within, queues}
use Rattle.links.specs.Links.{cell, net}
use Rattle.links.proofs.Reading.{gates_counted}
use Rattle.states.specs.View.{is_queue, number}

-- ---- those of a list that pass a test

-- numbers from a place on
keep_later : (f : ℕ → Bool) (a n : ℕ) → length (keep f (from (suc a) n)) ≡ length (keep (λ g. f (suc g)) (from a n))
unfolding keep from if◌then◌otherwise◌
keep_later f a zero = refl
keep_later f a (suc n) = go (f (suc a)) refl (keep_later f (suc a) n)
  where
    go : (b : Bool) → f (suc a) ≡ b → length (keep f (from (suc (suc a)) n)) ≡ length (keep (λ g. f (suc g)) (from (suc a) n))
        → length (if b then suc a ∷ keep f (from (suc (suc a)) n) otherwise keep f (from (suc (suc a)) n))
        ≡ length (if b then a ∷ keep (λ g. f (suc g)) (from (suc a) n) otherwise keep (λ g. f (suc g)) (from (suc a) n))
    go true e h = ap suc h
    go false e h = h

-- the numbers of those that pass are as many as those that pass
keep_numbers : (p : ℕ → Bool) (ks : List ℕ) → length (keep (λ g. p (get_or ks g 0)) (from 0 (length ks))) ≡ length (keep p ks)
unfolding keep from if◌then◌otherwise◌
keep_numbers p [] = refl
keep_numbers p (k ∷ ks) = go (p k) (keep_later (λ g. p (get_or (k ∷ ks) g 0)) 0 (length ks) ∙ keep_numbers p ks)
  where
    go : (b : Bool) → length (keep (λ g. p (get_or (k ∷ ks) g 0)) (from 1 (length ks))) ≡ length (keep p ks)
        → length (if b then 0 ∷ keep (λ g. p (get_or (k ∷ ks) g 0)) (from 1 (length ks)) otherwise keep (λ g. p (get_or (k ∷ ks) g 0)) (from 1 (length ks)))
        ≡ length (if b then k ∷ keep p ks otherwise keep p ks)
    go true h = ap suc h
    go false h = h

-- before one that passes there are fewer
keep_fewer : (p : ℕ → Bool) (ks : List ℕ) (g : ℕ) → p 0 ≡ false → p (get_or ks g 0) ≡ true → length (keep p (take g ks)) < length (keep p ks)
unfolding keep if◌then◌otherwise◌
keep_fewer p [] g z e = absurd (subst T (sym e ∙ z) tt)
keep_fewer p (k ∷ ks) zero z e = rw e (omega arith)
keep_fewer p (k ∷ ks) (suc g) z e = go (p k) (keep_fewer p ks g z e)
  where
    go : (b : Bool) → length (keep p (take g ks)) < length (keep p ks) → length (if b then k ∷ keep p (take g ks) otherwise keep p (take g ks)) < length (if b then k ∷ keep p ks otherwise keep p ks)
    go true h = omega arith
    go false h = h

-- with one more there is one more, if it passes
keep_next : (p : ℕ → Bool) (ks : List ℕ) (g : ℕ) → g < length ks → length (keep p (take (suc g) ks)) ≡ (if p (get_or ks g 0) then suc (length (keep p (take g ks))) otherwise length (keep p (take g ks)))
unfolding keep if◌then◌otherwise◌
keep_next p [] g h = absurd (omega arith)
keep_next p (k ∷ ks) zero h = go (p k)
  where
    go : (b : Bool) → length (if b then k ∷ [] otherwise []) ≡ (if b then 1 otherwise 0)
    go true = refl
    go false = refl
keep_next p (k ∷ ks) (suc g) h = go (p k) (p (get_or ks g 0)) (keep_next p ks g (omega arith))
  where
    go : (b d : Bool) → length (keep p (take (suc g) ks)) ≡ (if d then suc (length (keep p (take g ks))) otherwise length (keep p (take g ks)))
        → length (if b then k ∷ keep p (take (suc g) ks) otherwise keep p (take (suc g) ks))
        ≡ (if d then suc (length (if b then k ∷ keep p (take g ks) otherwise keep p (take g ks))) otherwise length (if b then k ∷ keep p (take g ks) otherwise keep p (take g ks)))
    go true true e = ap suc e
    go true false e = ap suc e
    go false true e = e
    go false false e = e

-- ---- the Queues of a circuit

none_there : within 16 17 0 ≡ false
unfolding within
none_there = refl

pub queues_are : (c : Circuit) → queues c ≡ length (keep (within 16 17) c.kinds)
unfolding queues gates_of gates_such
queues_are c = keep_numbers (within 16 17) c.kinds

-- a Queue's number is below their count
pub number_below : (c : Circuit) (g : ℕ) → is_queue c g ≡ true → number c g < queues c
unfolding is_queue number kind_of_gate
number_below c g e = omega (arith, keep_fewer (within 16 17) c.kinds g none_there e, queues_are c)

-- a later Queue has a larger number
pub number_rises : (c : Circuit) (g h : ℕ) → g < h → is_queue c g ≡ true → number c g < number c h
unfolding is_queue number kind_of_gate
number_rises c g h l e =
    let q : within 16 17 (get_or (take h c.kinds) g 0) ≡ true = ap (within 16 17) (get_or-take h c.kinds g 0 l) ∙ e in
    let t : take g (take h c.kinds) ≡ take g c.kinds = take-take g h c.kinds (omega arith) in
    subst (λ (s : List ℕ). length (keep (within 16 17) s) < length (keep (within 16 17) (take h c.kinds))) t (keep_fewer (within 16 17) (take h c.kinds) g none_there q)

-- the numbers along the gates
pub number_first : (c : Circuit) → number c 0 ≡ 0
unfolding number keep
number_first c = refl

pub number_next : (c : Circuit) (g : ℕ) → g < length c.kinds → number c (suc g) ≡ (if is_queue c g then suc (number c g) otherwise number c g)
unfolding is_queue number kind_of_gate
number_next c g h = keep_next (within 16 17) c.kinds g h

-- a number is at most the gate's
keep_most : (p : ℕ → Bool) (xs : List ℕ) → length (keep p xs) ≤ length xs
unfolding keep if◌then◌otherwise◌
keep_most p [] = omega arith
keep_most p (x ∷ xs) = go (p x) (keep_most p xs)
  where
    go : (b : Bool) → length (keep p xs) ≤ length xs → length (if b then x ∷ keep p xs otherwise keep p xs) ≤ suc (length xs)
    go true h = omega arith
    go false h = omega arith

pub number_most : (c : Circuit) (g : ℕ) → number c g ≤ g
unfolding number
number_most c g = omega (arith, keep_most (within 16 17) (take g c.kinds), length-take g c.kinds)

-- a Queue is a gate that there is
pub queue_there : (c : Circuit) (g : ℕ) → is_queue c g ≡ true → g < length c.kinds
unfolding is_queue kind_of_gate
queue_there c g e = go (leb (length c.kinds) g) refl
  where
    go : (b : Bool) → leb (length c.kinds) g ≡ b → g < length c.kinds
    go true q = absurd (subst T (sym e ∙ ap (within 16 17) (get_or-eq_default c.kinds 0 {n = g} (leb-true _ _ q)) ∙ none_there) tt)
    go false q = leb-false _ _ q

-- links show 64 gates at the most
pub gates_few : (l : List ℕ) → length (net l).kinds ≤ 64
gates_few l = let q = gates_counted l (min (cell l 0) 64) refl in omega (arith, q.0, q.1)
