-- Counting ticks by driver.
use mathlib.Core.Path.{◌≡◌, refl, sym, ap, ◌∙◌}
use mathlib.Core.Bool.{Bool, true, false, ◌&&◌, ◌||◌, true≢false}
use mathlib.Core.List.{List, [], ◌∷◌}
use Prim.Native.Nat.{ℕ, zero, suc, ◌+◌, ◌≤◌}
use native.Mathlib.Omega.{arith}
use lib.Dec.{eqb}
use lib.ListN.{length}
use borrow.Author.Tests.{eqb-true, eqb-false, eq-eqb, ne_eqb}
use Rattle.model.specs.Base.{if◌then◌otherwise◌, keep, snoc, among}
use Rattle.model.specs.Value.{bit}
use Rattle.hours.specs.Hours.{Share, unassigned, assigned, last_activity, drivers_after, is_share, is_nobodys}
use Rattle.hours.specs.Tally.{with_driver}

-- each of a list
abbrev pub Each : {A : Type 0} → (A → Type 0) → List A → Type 0
Each P [] = Unit {0}
Each P (x ∷ xs) = P x × Each P xs

-- as many as pass
pub counted : {A : Type 0} (p : A → Bool) (x : A) (xs : List A) → length (keep p (x ∷ xs)) ≡ bit (p x) + length (keep p xs)
unfolding keep if◌then◌otherwise◌ bit
counted p x xs = go (p x)
  where
    go : (b : Bool) → length (if b then x ∷ keep p xs otherwise keep p xs) ≡ bit b + length (keep p xs)
    go true = omega arith
    go false = omega arith

-- how often a driver stands in a list
unfoldable pub often : ℕ → List ℕ → ℕ
often e [] = 0
often e (d ∷ ds) = bit (eqb d e) + often e ds

-- the driver's ticks
unfoldable pub is_drivers : ℕ → Share → Bool
is_drivers d unassigned = false
is_drivers d (assigned e a) = eqb d e

unfoldable pub ticks_of : ℕ → List Share → ℕ
ticks_of d [] = 0
ticks_of d (s ∷ ss) = bit (is_drivers d s) + ticks_of d ss

-- added up over some drivers
unfoldable pub ticks_of_all : List ℕ → List Share → ℕ
ticks_of_all [] ss = 0
ticks_of_all (d ∷ ds) ss = ticks_of d ss + ticks_of_all ds ss

-- an activity is 0 to 3
abbrev pub GoodShare : Share → Type 0
GoodShare unassigned = Unit {0}
GoodShare (assigned d a) = a ≤ last_activity

-- the four activities of one tick
four : (d : ℕ) (s : Share) → GoodShare s → bit (is_share d 0 s) + bit (is_share d 1 s) + bit (is_share d 2 s) + bit (is_share d 3 s) ≡ bit (is_drivers d s)
unfolding is_share is_drivers bit
four d unassigned h = refl
four d (assigned e zero) h = go (eqb d e)
  where
    go : (b : Bool) → bit (b && true) + bit (b && false) + bit (b && false) + bit (b && false) ≡ bit b
    go true = refl
    go false = refl
four d (assigned e (suc zero)) h = go (eqb d e)
  where
    go : (b : Bool) → bit (b && false) + bit (b && true) + bit (b && false) + bit (b && false) ≡ bit b
    go true = refl
    go false = refl
four d (assigned e (suc (suc zero))) h = go (eqb d e)
  where
    go : (b : Bool) → bit (b && false) + bit (b && false) + bit (b && true) + bit (b && false) ≡ bit b
    go true = refl
    go false = refl
four d (assigned e (suc (suc (suc zero)))) h = go (eqb d e)
  where
    go : (b : Bool) → bit (b && false) + bit (b && false) + bit (b && false) + bit (b && true) ≡ bit b
    go true = refl
    go false = refl
four d (assigned e (suc (suc (suc (suc a))))) h = absurd (omega (arith, h))

-- the four lines of a driver
pub four_lines :
    (d : ℕ) (ss : List Share) → Each GoodShare ss →
    length (keep (is_share d 0) ss) + length (keep (is_share d 1) ss) + length (keep (is_share d 2) ss) + length (keep (is_share d 3) ss) ≡ ticks_of d ss
unfolding ticks_of keep
four_lines d [] h = refl
four_lines d (s ∷ ss) h =
    omega (arith, counted (is_share d 0) s ss, counted (is_share d 1) s ss, counted (is_share d 2) s ss, counted (is_share d 3) s ss, four d s h.0, four_lines d ss h.1)

-- ---- over all drivers

-- the drivers of a tick are in the list once
abbrev pub Once : List ℕ → Share → Type 0
Once ds unassigned = Unit {0}
Once ds (assigned e a) = often e ds ≡ 1

ticks_more : (ds : List ℕ) (s : Share) (ss : List Share) → Once ds s → ticks_of_all ds (s ∷ ss) + bit (is_nobodys s) ≡ ticks_of_all ds ss + 1
unfolding ticks_of_all ticks_of is_drivers is_nobodys bit often
ticks_more ds unassigned ss h = go ds
  where
    go : (ds : List ℕ) → ticks_of_all ds (unassigned ∷ ss) + 1 ≡ ticks_of_all ds ss + 1
    go [] = refl
    go (d ∷ ds) = omega (arith, go ds)
ticks_more ds (assigned e a) ss h = omega (arith, go ds, h)
  where
    go : (ds : List ℕ) → ticks_of_all ds (assigned e a ∷ ss) ≡ often e ds + ticks_of_all ds ss
    go [] = refl
    go (d ∷ ds) = omega (arith, go ds)

pub all_ticks : (ds : List ℕ) (ss : List Share) → Each (Once ds) ss → ticks_of_all ds ss + length (keep is_nobodys ss) ≡ length ss
unfolding keep ticks_of_all ticks_of
all_ticks ds [] h = none ds
  where
    none : (ds : List ℕ) → ticks_of_all ds [] + 0 ≡ 0
    none [] = refl
    none (d ∷ ds) = omega (arith, none ds)
all_ticks ds (s ∷ ss) h = omega (arith, counted is_nobodys s ss, ticks_more ds s ss h.0, all_ticks ds ss h.1)

-- ---- each driver once, in order of first appearance

often_last : (e d : ℕ) (ds : List ℕ) → often e (snoc ds d) ≡ often e ds + bit (eqb d e)
unfolding often snoc
often_last e d [] = omega arith
often_last e d (x ∷ ds) = omega (arith, often_last e d ds)

among_often : (d : ℕ) (ds : List ℕ) → among d ds ≡ true → 1 ≤ often d ds
unfolding among often bit
among_often d [] h = absurd (true≢false (sym h))
among_often d (x ∷ ds) h = go (λ k. among_often d ds k) (eqb d x) refl h
  where
    go : (among d ds ≡ true → 1 ≤ often d ds) → (b : Bool) → eqb d x ≡ b → (b || among d ds) ≡ true → 1 ≤ bit (eqb x d) + often d ds
    go rec true e k = rw (eq-eqb x d (sym (eqb-true d x e))) (omega arith)
    go rec false e k = omega (arith, rec k)

absent_often : (d : ℕ) (ds : List ℕ) → among d ds ≡ false → often d ds ≡ 0
unfolding among often bit
absent_often d [] h = refl
absent_often d (x ∷ ds) h = go (λ k. absent_often d ds k) (eqb d x) refl h
  where
    go : (among d ds ≡ false → often d ds ≡ 0) → (b : Bool) → eqb d x ≡ b → (b || among d ds) ≡ false → bit (eqb x d) + often d ds ≡ 0
    go rec true e k = absurd (true≢false k)
    go rec false e k = rw (ne_eqb x d (λ z. eqb-false d x e (sym z))) (omega (arith, rec k))

with_once : (ds : List ℕ) (d : ℕ) → ((e : ℕ) → often e ds ≤ 1) → ((e : ℕ) → often e (with_driver ds d) ≤ 1)
unfolding with_driver if◌then◌otherwise◌ bit
with_once ds d h e = go (among d ds) refl
  where
    both_ways : (b : Bool) → eqb d e ≡ b → often d ds ≡ 0 → often e ds + bit b ≤ 1
    both_ways true q z = let s : d ≡ e = eqb-true d e q in let w : often e ds ≡ 0 = ap (λ (x : ℕ). often x ds) (sym s) ∙ z in omega (arith, w)
    both_ways false q z = omega (arith, h e)

    go : (b : Bool) → among d ds ≡ b → often e (if b then ds otherwise snoc ds d) ≤ 1
    go true q = h e
    go false q = omega (arith, often_last e d ds, both_ways (eqb d e) refl (absent_often d ds q))

with_grows : (ds : List ℕ) (d e : ℕ) → often e ds ≤ often e (with_driver ds d)
unfolding with_driver if◌then◌otherwise◌
with_grows ds d e = go (among d ds)
  where
    go : (b : Bool) → often e ds ≤ often e (if b then ds otherwise snoc ds d)
    go true = omega arith
    go false = omega (arith, often_last e d ds)

with_has : (ds : List ℕ) (d : ℕ) → 1 ≤ often d (with_driver ds d)
unfolding with_driver if◌then◌otherwise◌ bit
with_has ds d = go (among d ds) refl
  where
    go : (b : Bool) → among d ds ≡ b → 1 ≤ often d (if b then ds otherwise snoc ds d)
    go true q = among_often d ds q
    go false q = let w : bit (eqb d d) ≡ 1 = rw (eq-eqb d d refl) in omega (arith, often_last d d ds, w)

once_kept : (ss : List Share) (ds : List ℕ) → ((e : ℕ) → often e ds ≤ 1) → (e : ℕ) → often e (drivers_after ds ss) ≤ 1
unfolding drivers_after with_driver
once_kept [] ds h e = h e
once_kept (unassigned ∷ ss) ds h e = once_kept ss ds h e
once_kept (assigned d a ∷ ss) ds h e = once_kept ss (with_driver ds d) (with_once ds d h) e

grown : (ss : List Share) (ds : List ℕ) (e : ℕ) → often e ds ≤ often e (drivers_after ds ss)
unfolding drivers_after with_driver
grown [] ds e = omega arith
grown (unassigned ∷ ss) ds e = grown ss ds e
grown (assigned d a ∷ ss) ds e = omega (arith, with_grows ds d e, grown ss (with_driver ds d) e)

pub each_once : (ss : List Share) (ds : List ℕ) → ((e : ℕ) → often e ds ≤ 1) → Each (Once (drivers_after ds ss)) ss
unfolding drivers_after with_driver
each_once [] ds h = tt
each_once (unassigned ∷ ss) ds h = (tt, each_once ss ds h)
each_once (assigned d a ∷ ss) ds h =
    (omega (arith, once_kept ss (with_driver ds d) (with_once ds d h) d, grown ss (with_driver ds d) d, with_has ds d), each_once ss (with_driver ds d) (with_once ds d h))
