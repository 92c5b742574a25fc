-- What the proofs of the functions over rings cite.
use Prim.Native.Nat.{ℕ, zero, suc, ◌+◌, ◌-◌, ◌≤◌, ◌<◌, min}
use mathlib.Core.Path.{◌≡◌, refl, sym, ap, ◌∙◌}
use mathlib.Core.Bool.{Bool, true, false, cond}
use mathlib.Core.List.{List, [], ◌∷◌, ◌++◌}
use native.Mathlib.Omega.{arith}
use native.Mathlib.Numerals.{add-one}
use borrow.Author.Tests.{lt-ltb, le-ltb, ltb-true, ltb-false}
use lib.Dec.{ltb}
use lib.ListN.{length, get_or, set, drop, length-set}
use lib.Seq.{get_or-set_same, get_or-set_other}
use Rattle.std.specs.Prelude.{Some}
use Rattle.lists.specs.Lists.{Done, held, wrapped, ring, first_slot, queued, filed, if_room, taken}
use Rattle.lists.proofs.Answers.{with_room}

-- ---- slots

-- not past the last slot
pub wrapped_low : (most i : ℕ) → i < most → i ≡ wrapped most i
wrapped_low most i h = rw (lt-ltb i most h)

-- past the last slot
pub wrapped_high : (most i : ℕ) → most ≤ i → i - most ≡ wrapped most i
wrapped_high most i h = rw (le-ltb i most h)

-- n + 1 slots on from h is n slots on from the slot after h
wrapped_step : (most h n : ℕ) → h < most → suc n < most → wrapped most (h + suc n) ≡ wrapped most (wrapped most (h + 1) + n)
wrapped_step most h n p q = go (ltb (h + 1) most) refl
  where
    go : (b : Bool) → ltb (h + 1) most ≡ b → wrapped most (h + suc n) ≡ wrapped most (cond b (h + 1) (h + 1 - most) + n)
    go true e = let k : h + suc n ≡ h + 1 + n = omega arith in ap (wrapped most) k
    go false e =
        let m : most ≤ h + 1 = ltb-false (h + 1) most e in
        let k : h + 1 - most + n ≡ n = omega arith in
        let j : h + suc n - most ≡ n = omega arith in
        rw k (sym (wrapped_high most (h + suc n) (omega arith)) ∙ j ∙ wrapped_low most n (omega arith))

-- fewer than `most` slots on from h is not h
wrapped_apart : (most h n : ℕ) → h < most → suc n < most → (2 + h ≡ 2 + wrapped most (h + suc n)) → ⊥
wrapped_apart most h n p q = go (ltb (h + suc n) most) refl
  where
    go : (b : Bool) → ltb (h + suc n) most ≡ b → (2 + h ≡ 2 + cond b (h + suc n) (h + suc n - most)) → ⊥
    go true e s = omega arith
    go false e s = let m : most ≤ h + suc n = ltb-false (h + suc n) most e in omega arith

-- it is a slot of the ring
wrapped_below : (most i : ℕ) → i < most + most → wrapped most i < most
wrapped_below most i h = go (ltb i most) refl
  where
    go : (b : Bool) → ltb i most ≡ b → cond b i (i - most) < most
    go true e = ltb-true i most e
    go false e = let m : most ≤ i = ltb-false i most e in omega arith

-- the two answers of `first_slot`
pub first_low : (most i : ℕ) (w : List ℕ) → i ≡ get_or w 1 0 → i < most → i ≡ first_slot most w
first_low most i w e h = rw (← e, lt-ltb i most h)

pub first_high : (most i : ℕ) (w : List ℕ) → i ≡ get_or w 1 0 → most ≤ i → 0 ≡ first_slot most w
first_high most i w e h = rw (← e, le-ltb i most h)

-- ---- the view

-- as many as asked for
ring_length : (most : ℕ) (w : List ℕ) (i n : ℕ) → length (ring most w i n) ≡ n
unfolding ring
ring_length most w i zero = refl
ring_length most w i (suc n) = ap suc (ring_length most w (wrapped most (i + 1)) n)

-- as many as the count says
pub queued_length : (most : ℕ) (w : List ℕ) → length (queued most w) ≡ held most w
unfolding queued
queued_length most w = ring_length most w (first_slot most w) (held most w)

-- the view where the count and the first slot are known
queued_is : (most n h : ℕ) (w : List ℕ) → n ≡ length (queued most w) → h ≡ first_slot most w → queued most w ≡ ring most w h n
unfolding queued
queued_is most n h w e f = let k : n ≡ held most w = e ∙ ring_length most w (first_slot most w) (held most w) in rw (k, f)

-- the view where word 0 and the first slot are known
queued_of : (most n h : ℕ) (w : List ℕ) → get_or w 0 0 ≡ n → n ≤ most → first_slot most w ≡ h → queued most w ≡ ring most w h n
unfolding queued
queued_of most n h w e l f =
    let k : held most w ≡ n = omega arith in
    λ j. ring most w (f j) (k j)

-- a store at the count or at the first slot's number
ring_other : (most : ℕ) (w : List ℕ) (i n j v : ℕ) → j < 2 → ring most (set w j v) i n ≡ ring most w i n
unfolding ring
ring_other most w i zero j v l = refl
ring_other most w i (suc n) j v l = rw (get_or-set_other w j (2 + i) v 0 (omega arith), ring_other most w (wrapped most (i + 1)) n j v l)

-- ---- one behind the last

-- a store in the slot behind the last entry
ring_push : (most n h x : ℕ) (w : List ℕ) → h < most → n < most → length w ≡ most + 2
    → ring most (set w (2 + wrapped most (h + n)) x) h (suc n) ≡ ring most w h n ++ x ∷ []
unfolding ring
ring_push most zero h x w p q l =
    let k : wrapped most (h + 0) ≡ h = (let z : h + 0 ≡ h = omega arith in rw z (sym (wrapped_low most h p))) in
    rw k (rw (get_or-set_same w (2 + h) x 0 (omega arith)))
ring_push most (suc n) h x w p q l =
    let a : get_or (set w (2 + wrapped most (h + suc n)) x) (2 + h) 0 ≡ get_or w (2 + h) 0 = get_or-set_other w (2 + wrapped most (h + suc n)) (2 + h) x 0 (wrapped_apart most h n p q) in
    let b : ring most (set w (2 + wrapped most (h + suc n)) x) (wrapped most (h + 1)) (suc n) ≡ ring most w (wrapped most (h + 1)) n ++ x ∷ [] =
    ap (λ (i : ℕ). ring most (set w (2 + i) x) (wrapped most (h + 1)) (suc n)) (wrapped_step most h n p q) ∙ ring_push most n (wrapped most (h + 1)) x w (wrapped_below most (h + 1) (omega arith)) (omega arith) l in
    λ j. a j ∷ b j

-- `enqueue` with room
pub enqueued : (most n h i x : ℕ) (w w1 w2 : List ℕ) → length w ≡ most + 2 → n ≡ length (queued most w) → n < most → h ≡ first_slot most w → h < most
    → i ≡ wrapped most (h + n) → w1 ≡ set w (2 + i) x → w2 ≡ set w1 0 (n + 1)
    → (Done ≡ filed most (queued most w)) × (queued most w2 ≡ if_room most (queued most w) (queued most w ++ x ∷ []))
enqueued most n h i x w w1 w2 l e f eh p ei e1 e2 =
    let l1 : 0 < length w1 = rw (e1, length-set) (omega arith) in
    let c : get_or w2 0 0 ≡ suc n = rw (e2, add-one) (get_or-set_same w1 0 (suc n) 0 l1) in
    let d : get_or w2 1 0 ≡ get_or w 1 0 = rw (e2, get_or-set_other w1 0 1 (n + 1) 0 (omega arith), e1, get_or-set_other w (2 + i) 1 x 0 (omega arith)) in
    let s : first_slot most w2 ≡ h = rw d (sym eh) in
    let r : ring most w2 h (suc n) ≡ ring most w h n ++ x ∷ [] = rw (e2, ring_other most w1 h (suc n) 0 (n + 1) (omega arith), e1, ei) (ring_push most n h x w p f l) in
    with_room most n (queued most w) (queued most w ++ x ∷ []) (queued most w2) e f (queued_of most (suc n) h w2 c (omega arith) s ∙ rw (queued_is most n h w e eh) r)

-- ---- the first one off

-- `dequeue` of a ring that holds something
pub dequeued : (most n i j x : ℕ) (w w1 w2 : List ℕ) → length w ≡ most + 2 → n ≡ length (queued most w) → n ≤ most → (n ≡ 0 → ⊥) → i ≡ first_slot most w → x ≡ get_or w (2 + i) 0
    → j ≡ wrapped most (i + 1) → j < most → w1 ≡ set w 1 j → w2 ≡ set w1 0 (n - 1)
    → (Some x ≡ taken (queued most w)) × (queued most w2 ≡ drop 1 (queued most w))
unfolding ring taken
dequeued most zero i j x w w1 w2 l e h z ei ex ej p e1 e2 = absurd (z refl)
dequeued most (suc n) i j x w w1 w2 l e h z ei ex ej p e1 e2 =
    let k : suc n - 1 ≡ n = omega arith in
    let l1 : 0 < length w1 = rw (e1, length-set) (omega arith) in
    let c : get_or w2 0 0 ≡ n = rw (e2, k) (get_or-set_same w1 0 n 0 l1) in
    let d : get_or w2 1 0 ≡ j = rw (e2, get_or-set_other w1 0 1 (suc n - 1) 0 (omega arith), e1) (get_or-set_same w 1 j 0 (omega arith)) in
    let s : first_slot most w2 ≡ j = rw (d, lt-ltb j most p) in
    let q : queued most w ≡ x ∷ ring most w j n = queued_is most (suc n) i w e ei ∙ rw (ex, ej) in
    let r : ring most w2 j n ≡ ring most w j n = rw (e2, ring_other most w1 j n 0 (suc n - 1) (omega arith), e1) (ring_other most w j n 1 j (omega arith)) in
    (rw q, rw q (queued_of most n j w2 c (omega arith) s ∙ r))

-- ---- none left

-- a count of 0
pub queued_none : (most : ℕ) (w : List ℕ) → get_or w 0 0 ≡ 0 → queued most w ≡ []
unfolding queued ring
queued_none most w e = let k : min 0 most ≡ 0 = omega arith in rw (e, k)
