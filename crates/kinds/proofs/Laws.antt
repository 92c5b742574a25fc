-- What a match on the kind shows of the table. An arm's numbers are its keys, and its ranges are told apart by tests once the keys of all arms are ruled out.
use Prim.Native.Nat.{ℕ, zero, suc, ◌+◌, ◌-◌, ◌≤◌, ◌<◌}
use mathlib.Core.Path.{◌≡◌, refl, sym, ap, ◌∙◌}
use mathlib.Core.Bool.{Bool, true, false}
use mathlib.Core.List.{List, [], ◌∷◌, ◌++◌, map}
use mathlib.Core.Logic.{inl, inr}
use native.Mathlib.Omega.{arith}
use lib.Dec.{leb, ltb}
use lib.ListN.{length, get_or, drop, replicate, get_or-eq_default}
use borrow.Author.Tests.{ne_eqb, leb-true, leb-false, ltb-true, ltb-false}
use types.Run.{OneOf}
use Rattle.model.specs.Base.{if◌then◌otherwise◌, joined, among, from, base_opened}
use Rattle.model.specs.Kinds.{Kind, value, fires, kind_at, table, kinds_opened}
use Rattle.model.proofs.Lists.{map_from, all_same}
use Rattle.model.proofs.Roomy.{nine_outputs}

-- ---- keys

-- One of the keys, where the entry of each is r.
pub keyed : {A : Type 0} (entry : Kind → A) (r : A) (keys : List ℕ) (k : ℕ) → OneOf keys k → map (λ j. entry (kind_at j)) keys ≡ replicate (length keys) r → r ≡ entry (kind_at k)
keyed entry r [] k h e = absurd h
keyed {A} entry r (x ∷ []) k h e = sym (ap (λ (j : ℕ). entry (kind_at j)) h ∙ ap (λ (l : List A). get_or l 0 r) e)
keyed {A} entry r (x ∷ y ∷ keys) k (inl h) e = sym (ap (λ (j : ℕ). entry (kind_at j)) h ∙ ap (λ (l : List A). get_or l 0 r) e)
keyed {A} entry r (x ∷ y ∷ keys) k (inr h) e = keyed entry r (y ∷ keys) k h (ap (λ (l : List A). drop 1 l) e)

-- ---- ranges

-- None of the keys of these arms, the last one first.
abbrev pub Others : List (List ℕ) → ℕ → Type 0
Others [] k = Unit {0}
Others (keys ∷ arms) k = Others arms k × (OneOf keys k → ⊥)

-- the entry of kind k, or r where k is a key
unfoldable pub beside : {A : Type 0} → List (List ℕ) → (Kind → A) → A → ℕ → A
beside arms entry r k = if among k (joined arms) then r otherwise entry (kind_at k)

no_key : (keys rest : List ℕ) (k : ℕ) → (OneOf keys k → ⊥) → among k rest ≡ false → among k (keys ++ rest) ≡ false
unfolding among
no_key [] rest k n m = m
no_key (x ∷ []) rest k n m = rw (ne_eqb k x n, m)
no_key (x ∷ y ∷ keys) rest k n m = rw (ne_eqb k x (λ e. n (inl e))) (no_key (y ∷ keys) rest k (λ h. n (inr h)) m)

no_keys : (arms : List (List ℕ)) (k : ℕ) → Others arms k → among k (joined arms) ≡ false
unfolding among joined
no_keys [] k o = refl
no_keys (keys ∷ arms) k o = no_key keys (joined arms) k o.1 (no_keys arms k o.0)

-- From a to below b, where each entry is r beside the keys.
pub ranged :
    {A : Type 0} (entry : Kind → A) (r : A) (arms : List (List ℕ)) (a b k : ℕ) → Others arms k → a ≤ k → k < b →
    map (beside arms entry r) (from a (b - a)) ≡ replicate (b - a) r → r ≡ entry (kind_at k)
unfolding beside if◌then◌otherwise◌
ranged {A} entry r arms a b k o l h e =
    let f : ℕ → A = beside arms entry r in
    let i : a + (k - a) ≡ k = omega arith in
    let p : f k ≡ r = sym (map_from f a (b - a) (k - a) r (omega arith) ∙ ap f i) ∙ ap (λ (xs : List A). get_or xs (k - a) r) e ∙ all_same (b - a) (k - a) r in
    sym (rw (no_keys arms k o) at p)

-- ---- past the table

past : (k : ℕ) → 32 ≤ k → kind_at k ≡ kind_at 0
unfolding kind_at table
past zero h = absurd (omega arith)
past (suc k) h = get_or-eq_default table (record { ins = []; outs = [] }) {n = k} (omega arith)

-- From a on: each entry is r beside the keys up to 31, and r where there is no kind.
pub last :
    {A : Type 0} (entry : Kind → A) (r : A) (arms : List (List ℕ)) (a k : ℕ) → Others arms k → a ≤ k →
    map (beside arms entry r) (from a (32 - a)) ≡ replicate (32 - a) r → r ≡ entry (kind_at 0) → r ≡ entry (kind_at k)
last entry r arms a k o l e z = go (leb k 31) refl
  where
    go : (b : Bool) → leb k 31 ≡ b → r ≡ entry (kind_at k)
    go true t = ranged entry r arms a 32 k o l (omega (arith, leb-true k 31 t)) e
    go false t = z ∙ sym (ap entry (past k (leb-false k 31 t)))

-- ---- what holds of every kind

-- Two entries that are the same in every row, and where there is no kind.
pub everywhere :
    {A : Type 0} (f g : Kind → A) (k : ℕ) → map (λ j. f (kind_at j)) (from 0 32) ≡ map (λ j. g (kind_at j)) (from 0 32) → f (kind_at k) ≡ g (kind_at k)
everywhere {A} f g k e = go (leb k 31) refl
  where
    at_row : (j : ℕ) → j ≤ 31 → f (kind_at j) ≡ g (kind_at j)
    at_row j h =
        let i : 0 + j ≡ j = omega arith in
        let d : A = f (kind_at 0) in
        sym (map_from (λ j. f (kind_at j)) 0 32 j d (omega arith) ∙ ap (λ (j : ℕ). f (kind_at j)) i) ∙ ap (λ (xs : List A). get_or xs j d) e
        ∙ (map_from (λ j. g (kind_at j)) 0 32 j d (omega arith) ∙ ap (λ (j : ℕ). g (kind_at j)) i)

    go : (b : Bool) → leb k 31 ≡ b → f (kind_at k) ≡ g (kind_at k)
    go true t = at_row k (leb-true k 31 t)
    go false t = let p : kind_at k ≡ kind_at 0 = past k (leb-false k 31 t) in ap f p ∙ at_row 0 (omega arith) ∙ sym (ap g p)

pub few_inputs : (k : ℕ) → length (kind_at k).ins ≤ 10
unfolding kinds_opened base_opened
few_inputs k = leb-true (length (kind_at k).ins) 10 (everywhere (λ x. leb (length x.ins) 10) (λ x. true) k refl)

pub few_outputs : (k : ℕ) → length (kind_at k).outs ≤ 9
few_outputs = nine_outputs

-- The places from a to below b of a list.
abbrev places : {A : Type 0} → A → ℕ → ℕ → List A → List A
places d a b xs = map (λ i. get_or xs i d) (from a (b - a))

-- Where they are all x, so is place p.
in_places : {A : Type 0} (d x : A) (a b p : ℕ) (xs : List A) → a ≤ p → p < b → places d a b xs ≡ replicate (b - a) x → get_or xs p d ≡ x
in_places {A} d x a b p xs l h e =
    let i : a + (p - a) ≡ p = omega arith in
    sym (map_from (λ i. get_or xs i d) a (b - a) (p - a) x (omega arith) ∙ ap (λ (i : ℕ). get_or xs i d) i) ∙ ap (λ (ys : List A). get_or ys (p - a) x) e ∙ all_same (b - a) (p - a) x

all_values : (k : ℕ) → places value 3 10 (kind_at k).ins ≡ replicate 7 value
unfolding kinds_opened base_opened
all_values k = everywhere (λ x. places value 3 10 x.ins) (λ x. replicate 7 value) k refl

-- Inputs from 3 on are values.
pub later_inputs : (k p : ℕ) → 3 ≤ p → value ≡ get_or (kind_at k).ins p value
later_inputs k p l = go (ltb p 10) refl
  where
    go : (b : Bool) → ltb p 10 ≡ b → value ≡ get_or (kind_at k).ins p value
    go true t = sym (in_places value value 3 10 p (kind_at k).ins l (ltb-true p 10 t) (all_values k))
    go false t = sym (get_or-eq_default (kind_at k).ins value {n = p} (omega (arith, ltb-false p 10 t, few_inputs k)))

all_fifth : (k : ℕ) → places fires 4 9 (kind_at k).outs ≡ replicate 5 (get_or (kind_at k).outs 4 fires)
unfolding kinds_opened base_opened
all_fifth k = everywhere (λ x. places fires 4 9 x.outs) (λ x. replicate 5 (get_or x.outs 4 fires)) k refl

-- Outputs 4 to 8 are alike.
pub later_outputs : (k p : ℕ) → 4 ≤ p → p < 9 → get_or (kind_at k).outs p fires ≡ get_or (kind_at k).outs 4 fires
later_outputs k p l h = in_places fires (get_or (kind_at k).outs 4 fires) 4 9 p (kind_at k).outs l h (all_fifth k)

-- There are no outputs from 9 on.
pub past_outputs : (k p : ℕ) → 9 ≤ p → fires ≡ get_or (kind_at k).outs p fires
past_outputs k p l = sym (get_or-eq_default (kind_at k).outs fires {n = p} (omega (arith, few_outputs k)))

-- Neither 0, 1 nor 2.
pub from_three : (p : ℕ) → Others ((2 ∷ []) ∷ (1 ∷ []) ∷ (0 ∷ []) ∷ []) p → 3 ≤ p
from_three zero o = absurd (o.0.0.1 refl)
from_three (suc zero) o = absurd (o.0.1 refl)
from_three (suc (suc zero)) o = absurd (o.1 refl)
from_three (suc (suc (suc p))) o = omega arith

-- Nor 3.
pub from_four : (p : ℕ) → Others ((3 ∷ []) ∷ (2 ∷ []) ∷ (1 ∷ []) ∷ (0 ∷ []) ∷ []) p → 4 ≤ p
from_four zero o = absurd (o.0.0.0.1 refl)
from_four (suc zero) o = absurd (o.0.0.1 refl)
from_four (suc (suc zero)) o = absurd (o.0.1 refl)
from_four (suc (suc (suc zero))) o = absurd (o.1 refl)
from_four (suc (suc (suc (suc p)))) o = omega arith
