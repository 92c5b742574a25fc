-- Laws of the ring that holds the fires of a buffer: what is read after a store, and one entry more or less.
use Prim.Native.Nat.{ℕ, zero, suc, ◌+◌, ◌%◌, ◌<◌, ◌≤◌}
use mathlib.Core.Path.{◌≡◌, refl, ap, ◌∙◌}
use mathlib.Core.Bool.{Bool}
use mathlib.Core.List.{List, [], ◌∷◌, ◌++◌, map}
use native.Mathlib.Nat.{add-zero}
use native.Mathlib.Omega.{arith}
use lib.ListN.{length, get_or, set, length-map, get_or-map}
use lib.Seq.{get_or-set_same, get_or-set_other}
use Rattle.schedule.proofs.Erase.{map_append}
use Rattle.model.specs.Base.{snoc}
use Rattle.model.specs.State.{Countdown}
use Rattle.model.specs.Delays.{tick_down}
use Rattle.delays.specs.States.{of_word, ring, under_way}

-- ---- the words

ring_length : (n h : ℕ) (ws : List ℕ) → length (ring n h ws) ≡ n
unfolding ring
ring_length zero h ws = refl
ring_length (suc n) h ws = ap suc (ring_length n (suc h) ws)

-- only the slot counts
ring_same : (n g h : ℕ) (ws : List ℕ) → g % 32 ≡ h % 32 → ring n g ws ≡ ring n h ws
unfolding ring
ring_same zero g h ws e = refl
ring_same (suc n) g h ws e =
    let k : suc g % 32 ≡ suc h % 32 = omega arith in
    λ j. get_or ws (e j) 0 ∷ ring_same n (suc g) (suc h) ws k j

ring_get : (n h i : ℕ) (ws : List ℕ) → i < n → get_or (ring n h ws) i 0 ≡ get_or ws ((h + i) % 32) 0
unfolding ring
ring_get zero h i ws l = absurd (omega arith)
ring_get (suc n) h zero ws l = let e : h % 32 ≡ (h + 0) % 32 = omega arith in ap (λ (k : ℕ). get_or ws k 0) e
ring_get (suc n) h (suc i) ws l =
    let e : (suc h + i) % 32 ≡ (h + suc i) % 32 = omega arith in
    ring_get n (suc h) i ws (omega arith) ∙ ap (λ (k : ℕ). get_or ws k 0) e

-- a store into a slot that is none of theirs
ring_other : (n h a v : ℕ) (ws : List ℕ) → ((i : ℕ) → i < n → (h + i) % 32 ≡ a → ⊥) → ring n h (set ws a v) ≡ ring n h ws
unfolding ring
ring_other zero h a v ws k = refl
ring_other (suc n) h a v ws k =
    let here : h % 32 ≡ a → ⊥ = λ e. k 0 (omega arith) (ap (λ (m : ℕ). m % 32) (add-zero h) ∙ e) in
    let there : (i : ℕ) → i < n → (suc h + i) % 32 ≡ a → ⊥ = λ i l e. let q : (h + suc i) % 32 ≡ (suc h + i) % 32 = omega arith in k (suc i) (omega arith) (q ∙ e) in
    λ j. get_or-set_other ws a (h % 32) v 0 here j ∷ ring_other n (suc h) a v ws there j

-- a store into the slot of one of them
ring_set : (n h i v : ℕ) (ws : List ℕ) → length ws ≡ 32 → n ≤ 32 → i < n → ring n h (set ws ((h + i) % 32) v) ≡ set (ring n h ws) i v
unfolding ring
ring_set zero h i v ws l m k = absurd (omega arith)
ring_set (suc n) h zero v ws l m k =
    let e : (h + 0) % 32 ≡ h % 32 = omega arith in
    let in_range : h % 32 < length ws = omega arith in
    rw e (λ j. get_or-set_same ws (h % 32) v 0 in_range j ∷ ring_other n (suc h) (h % 32) v ws (λ i q p. omega arith) j)
ring_set (suc n) h (suc i) v ws l m k =
    let e : (h + suc i) % 32 ≡ (suc h + i) % 32 = omega arith in
    let apart : h % 32 ≡ (suc h + i) % 32 → ⊥ = λ p. omega arith in
    rw e (λ j. get_or-set_other ws ((suc h + i) % 32) (h % 32) v 0 apart j ∷ ring_set n (suc h) i v ws l (omega arith) (omega arith) j)

-- one more at the end
ring_more : (n h : ℕ) (ws : List ℕ) → ring (suc n) h ws ≡ ring n h ws ++ (get_or ws ((h + n) % 32) 0 ∷ [])
unfolding ring
ring_more zero h ws = let e : h % 32 ≡ (h + 0) % 32 = omega arith in ap (λ (k : ℕ). get_or ws k 0 ∷ []) e
ring_more (suc n) h ws =
    let e : (suc h + n) % 32 ≡ (h + suc n) % 32 = omega arith in
    ap (λ (r : List ℕ). get_or ws (h % 32) 0 ∷ r) (ring_more n (suc h) ws ∙ ap (λ (k : ℕ). ring n (suc h) ws ++ (get_or ws k 0 ∷ [])) e)

ring_add : (n h v : ℕ) (ws : List ℕ) → length ws ≡ 32 → n < 32 → ring (suc n) h (set ws ((h + n) % 32) v) ≡ ring n h ws ++ (v ∷ [])
ring_add n h v ws l m =
    let in_range : (h + n) % 32 < length ws = omega arith in
    ring_more n h (set ws ((h + n) % 32) v)
    ∙ (λ j. ring_other n h ((h + n) % 32) v ws (λ i q p. omega arith) j ++ (get_or-set_same ws ((h + n) % 32) v 0 in_range j ∷ []))

-- ---- the countdowns

map_set : {A B : Type 0} (f : A → B) (xs : List A) (i : ℕ) (v : A) → map f (set xs i v) ≡ set (map f xs) i (f v)
map_set f [] i v = refl
map_set f (x ∷ xs) zero v = refl
map_set f (x ∷ xs) (suc i) v = ap (λ r. f x ∷ r) (map_set f xs i v)

pub under_way_length : (s : Bool) (n h : ℕ) (ws : List ℕ) → length (under_way s n h ws) ≡ n
unfolding under_way
under_way_length s n h ws = length-map (ring n h ws) (of_word s) ∙ ring_length n h ws

pub under_way_get : (s : Bool) (n h i : ℕ) (ws : List ℕ) → i < n → get_or (under_way s n h ws) i (of_word s 0) ≡ of_word s (get_or ws ((h + i) % 32) 0)
unfolding under_way
under_way_get s n h i ws l = get_or-map (of_word s) (ring n h ws) i 0 ∙ ap (of_word s) (ring_get n h i ws l)

pub under_way_same : (s : Bool) (n g h : ℕ) (ws : List ℕ) → g % 32 ≡ h % 32 → under_way s n g ws ≡ under_way s n h ws
unfolding under_way
under_way_same s n g h ws e = ap (map (of_word s)) (ring_same n g h ws e)

pub under_way_set : (s : Bool) (n h i v : ℕ) (ws : List ℕ) → length ws ≡ 32 → n ≤ 32 → i < n
    → under_way s n h (set ws ((h + i) % 32) v) ≡ set (under_way s n h ws) i (of_word s v)
unfolding under_way
under_way_set s n h i v ws l m k = ap (map (of_word s)) (ring_set n h i v ws l m k) ∙ map_set (of_word s) (ring n h ws) i v

pub under_way_add : (s : Bool) (n h v : ℕ) (ws : List ℕ) → length ws ≡ 32 → n < 32
    → under_way s (suc n) h (set ws ((h + n) % 32) v) ≡ snoc (under_way s n h ws) (of_word s v)
unfolding under_way snoc
under_way_add s n h v ws l m = ap (map (of_word s)) (ring_add n h v ws l m) ∙ map_append (of_word s) (ring n h ws) (v ∷ [])

pub under_way_front : (s : Bool) (n h : ℕ) (ws : List ℕ) → under_way s (suc n) h ws ≡ of_word s (get_or ws (h % 32) 0) ∷ under_way s n (suc h) ws
unfolding under_way ring
under_way_front s n h ws = refl

-- ---- counting all down, from the front on

-- those from place i on count down by a tick
unfoldable pub ticked_from : ℕ → ℕ → List Countdown → List Countdown
ticked_from dt zero ks = map (tick_down dt) ks
ticked_from dt (suc i) [] = []
ticked_from dt (suc i) (k ∷ ks) = k ∷ ticked_from dt i ks

pub ticked_next : (dt i : ℕ) (ks : List Countdown) (y d : Countdown) → i < length ks → y ≡ tick_down dt (get_or ks i d)
    → ticked_from dt (suc i) (set ks i y) ≡ ticked_from dt i ks
unfolding ticked_from
ticked_next dt i [] y d l e = absurd (omega arith)
ticked_next dt zero (k ∷ ks) y d l e = ap (λ x. x ∷ map (tick_down dt) ks) e
ticked_next dt (suc i) (k ∷ ks) y d l e = ap (λ r. k ∷ r) (ticked_next dt i ks y d (omega arith) e)

pub ticked_none : (dt i : ℕ) (ks : List Countdown) → length ks ≤ i → ticked_from dt i ks ≡ ks
unfolding ticked_from
ticked_none dt zero [] l = refl
ticked_none dt zero (k ∷ ks) l = absurd (omega arith)
ticked_none dt (suc i) [] l = refl
ticked_none dt (suc i) (k ∷ ks) l = ap (λ r. k ∷ r) (ticked_none dt i ks (omega arith))
