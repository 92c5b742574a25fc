-- What the proofs of the functions over stacks cite.
use Prim.Native.Nat.{ℕ, zero, suc, ◌+◌, ◌-◌, ◌≤◌, ◌<◌, min}
use mathlib.Core.Path.{◌≡◌, refl, ap, ◌∙◌}
use mathlib.Core.Bool.{Bool, true, false}
use mathlib.Core.List.{List, [], ◌∷◌, ◌++◌, reverse, reverse-append}
use native.Mathlib.Omega.{arith}
use native.Mathlib.Numerals.{add-one}
use borrow.Author.Tests.{ltb-true, ltb-false}
use lib.Dec.{ltb}
use lib.ListN.{length, get_or, set, drop, length-set, length-reverse, get_or-append}
use lib.Seq.{get_or-set_same, get_or-set_other, get_or_at}
use Rattle.std.specs.Prelude.{Some}
use Rattle.lists.specs.Lists.{Done, held, downward, stacked, appended, filed, if_room, taken}
use Rattle.lists.proofs.Answers.{with_room}

-- ---- the view

-- as many as asked for
downward_length : (n : ℕ) (w : List ℕ) → length (downward n w) ≡ n
unfolding downward
downward_length zero w = refl
downward_length (suc n) w = ap suc (downward_length n w)

-- as many as the count says
pub stacked_length : (most : ℕ) (w : List ℕ) → length (stacked most w) ≡ held most w
unfolding stacked
stacked_length most w = downward_length (held most w) w

-- the view where the count is known
pub stacked_is : (most n : ℕ) (w : List ℕ) → n ≡ length (stacked most w) → stacked most w ≡ downward n w
unfolding stacked
stacked_is most n w e = let k : n ≡ held most w = e ∙ downward_length (held most w) w in rw k

-- a store above the entries
pub downward_other : (n j v : ℕ) (w : List ℕ) → n < j → downward n (set w j v) ≡ downward n w
unfolding downward
downward_other zero j v w h = refl
downward_other (suc n) j v w h = rw (get_or-set_other w j (suc n) v 0 (omega arith), downward_other n j v w (omega arith))

-- a store at the count
downward_count : (n v : ℕ) (w : List ℕ) → downward n (set w 0 v) ≡ downward n w
unfolding downward
downward_count zero v w = refl
downward_count (suc n) v w = rw (get_or-set_other w 0 (suc n) v 0 (omega arith), downward_count n v w)

-- the count is stored
pub stacked_set : (most n : ℕ) (w : List ℕ) → 0 < length w → n ≤ most → stacked most (set w 0 n) ≡ downward n w
unfolding stacked
stacked_set most n w l h =
    let k : min n most ≡ n = omega arith in
    rw (get_or-set_same w 0 n 0 l, k) (downward_count n n w)

-- ---- on top, and off

-- a store just above the entries
downward_push : (n x : ℕ) (w : List ℕ) → n + 1 < length w → downward (n + 1) (set w (n + 1) x) ≡ x ∷ downward n w
unfolding downward
downward_push n x w l = rw (add-one, get_or-set_same w (suc n) x 0 (omega arith), downward_other n (suc n) x w (omega arith))

-- There was room, the entries are now m, and the count is stored: of `stack_push` and of `file`.
grown : (most n : ℕ) (m w w1 w2 : List ℕ) → 0 < length w1 → n ≡ length (stacked most w) → n < most → downward (n + 1) w1 ≡ m → w2 ≡ set w1 0 (n + 1)
    → (Done ≡ filed most (stacked most w)) × (stacked most w2 ≡ if_room most (stacked most w) m)
grown most n m w w1 w2 l e h q e2 = with_room most n (stacked most w) m (stacked most w2) e h (rw e2 (stacked_set most (n + 1) w1 l (omega arith) ∙ q))

-- `stack_push` with room
pub pushed : (most n x : ℕ) (w w1 w2 : List ℕ) → length w ≡ most + 1 → n ≡ length (stacked most w) → n < most → w1 ≡ set w (n + 1) x → w2 ≡ set w1 0 (n + 1)
    → (Done ≡ filed most (stacked most w)) × (stacked most w2 ≡ if_room most (stacked most w) (x ∷ stacked most w))
pushed most n x w w1 w2 l e h e1 e2 =
    let k : 0 < length w1 = rw (e1, length-set) (omega arith) in
    grown most n (x ∷ stacked most w) w w1 w2 k e h (rw (e1, stacked_is most n w e) (downward_push n x w (omega arith))) e2

-- `stack_pop` of a stack that holds something
pub popped : (most n x : ℕ) (w w2 : List ℕ) → length w ≡ most + 1 → n ≡ length (stacked most w) → n ≤ most → (n ≡ 0 → ⊥) → x ≡ get_or w n 0 → w2 ≡ set w 0 (n - 1)
    → (Some x ≡ taken (stacked most w)) × (stacked most w2 ≡ drop 1 (stacked most w))
unfolding downward taken
popped most zero x w w2 l e h z ex e2 = absurd (z refl)
popped most (suc n) x w w2 l e h z ex e2 =
    let p : suc n - 1 ≡ n = omega arith in
    let q : stacked most w ≡ x ∷ downward n w = stacked_is most (suc n) w e ∙ rw ex in
    (rw q, rw (q, e2, p) (stacked_set most n w (omega arith) (omega arith)))

-- ---- from the bottom on

-- entry i from the bottom on stands in word i + 1
downward_entry : (n i : ℕ) (w : List ℕ) → i < n → get_or (reverse (downward n w)) i 0 ≡ get_or w (i + 1) 0
unfolding downward
downward_entry zero i w h = absurd (omega arith)
downward_entry (suc n) i w h = rw (reverse-append (get_or w (suc n) 0 ∷ []) (downward n w)) (go (downward_entry n i w) (ltb i n) refl)
  where
    k : length (reverse (downward n w)) ≡ n
    k = length-reverse (downward n w) ∙ downward_length n w

    go : (i < n → get_or (reverse (downward n w)) i 0 ≡ get_or w (i + 1) 0) → (b : Bool) → ltb i n ≡ b
        → get_or (reverse (downward n w) ++ get_or w (suc n) 0 ∷ []) i 0 ≡ get_or w (i + 1) 0
    go on true e =
        let m : i < n = ltb-true i n e in
        get_or-append (reverse (downward n w)) (get_or w (suc n) 0 ∷ []) 0 i (omega (arith, k)) ∙ on m
    go on false e =
        let m : n ≤ i = ltb-false i n e in
        let q : i ≡ n = omega arith in
        rw (q, add-one) (get_or_at (reverse (downward n w)) (get_or w (suc n) 0) [] 0 n k)

-- for callers: entry i from the bottom on stands in word i + 1
pub entry_is : (most n i x : ℕ) (w : List ℕ) → n ≡ length (stacked most w) → i < n → x ≡ get_or w (i + 1) 0 → x ≡ get_or (appended most w) i 0
entry_is most n i x w e h ex = rw (stacked_is most n w e, downward_entry n i w h) ex

-- for callers: what is pushed joins behind the others
pub appended_push : (x : ℕ) (l : List ℕ) → reverse (x ∷ l) ≡ reverse l ++ x ∷ []
appended_push x l = reverse-append (x ∷ []) l

-- ---- none left

-- a count of 0
pub stacked_none : (most : ℕ) (w : List ℕ) → get_or w 0 0 ≡ 0 → stacked most w ≡ []
unfolding stacked downward
stacked_none most w e = let k : min 0 most ≡ 0 = omega arith in rw (e, k)
