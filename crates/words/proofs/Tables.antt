-- Laws of tables, of marks, of a ring and of a stack: what a load reads and what a store changes.
use Prim.Native.Nat.{ℕ, zero, suc, ◌+◌, ◌-◌, ◌*◌, ◌/◌, ◌%◌, ◌^◌, ◌≤◌, ◌<◌, max, min}
use mathlib.Core.Path.{◌≡◌, refl, sym, ap, ◌∙◌, subst, ap₂}
use mathlib.Core.Bool.{Bool, true, false}
use mathlib.Core.List.{List, [], ◌∷◌, ◌++◌, map, append_assoc}
use native.Mathlib.Omega.{arith}
use native.Mathlib.Nat.{zero-add, add-zero, suc-add, add_assoc, not-suc-le-zero, le_of_suc-le-suc, div-div-eq-div-mul, pow-succ', pow-suc, max-zero, max-eq_right, min-zero, zero-min, mod-eq_of_lt, one-mul}
use borrow.Author.Tests.{ne_eqb}
use borrow.Rule.Slice.PartMut.{put_mid}
use lib.Bits.{bit_and, bit_or, bit_xor, and_step, or_step, xor_step, differ, and_self, or_zero_r, xor_zero_r}
use lib.Count.{ones, ones_step, count_trailing_zeros, under}
use lib.Dec.{T}
use lib.ListN.{length, get_or, set, take, drop, length-append, length-drop, get_or-append}
use lib.Pow.{pow_mono}
use lib.Seq.{length-take-le, take_at, drop_at, take-add, drop-drop, take-set-lt, drop-set-lt, take-set-le, drop-set-add, set-append_left, get_or-append-add, get_or-take, get_or-drop, get_or-set_same, get_or-set_other}
use Rattle.words.specs.Bits.{places}
use Rattle.words.specs.Tables.{tables, base, marked, digits, marks, ring, stack}

-- ---- tables

-- A store into table t changes that table, at that place, and no other.
pub tables_set :
    (ns ws : List ℕ) (t i v : ℕ) → i < get_or ns t 0 →
    tables ns (set ws (base ns t + i) v) ≡ set (tables ns ws) t (set (get_or (tables ns ws) t []) i v)
tables_set [] ws t i v h = absurd (not-suc-le-zero h)
tables_set (n ∷ ns) ws zero i v h = rw (zero-add i, take-set-lt n ws i v h, drop-set-lt n ws i v h)
tables_set (n ∷ ns) ws (suc t) i v h =
    let l : n ≤ n + (base ns t + i) = omega arith in
    rw (add_assoc n (base ns t) i, take-set-le n ws _ v l, drop-set-add n ws (base ns t + i) v, tables_set ns (drop n ws) t i v h)

-- A load from table t.
pub tables_get : (ns ws : List ℕ) (t i : ℕ) → i < get_or ns t 0 → get_or ws (base ns t + i) 0 ≡ get_or (get_or (tables ns ws) t []) i 0
tables_get [] ws t i h = absurd (not-suc-le-zero h)
tables_get (n ∷ ns) ws zero i h = rw (zero-add i, get_or-take n ws i 0 h)
tables_get (n ∷ ns) ws (suc t) i h =
    rw (add_assoc n (base ns t) i, ← get_or-drop n ws (base ns t + i) 0) (tables_get ns (drop n ws) t i h)

-- A table is as long as it should be, where there are words enough.
pub tables_length : (ns ws : List ℕ) (t : ℕ) → t < length ns → base ns t + get_or ns t 0 ≤ length ws → length (get_or (tables ns ws) t []) ≡ get_or ns t 0
tables_length [] ws t k h = absurd (not-suc-le-zero k)
tables_length (n ∷ ns) ws zero k h = length-take-le n ws (omega arith)
tables_length (n ∷ ns) ws (suc t) k h = tables_length ns (drop n ws) t (le_of_suc-le-suc k) (let q = length-drop n ws in omega arith)

-- Table t is lent as a part, and comes back as p.
pub tables_put :
    (ns w p : List ℕ) (t : ℕ) → t < length ns → base ns t + get_or ns t 0 ≤ length w → length p ≡ get_or ns t 0 →
    tables ns (put_mid (base ns t) (get_or ns t 0) w p) ≡ set (tables ns w) t p
tables_put [] w p t h l e = absurd (not-suc-le-zero h)
tables_put (n ∷ ns) w p zero h l e = rw (take_at p (drop n w) n e, drop_at p (drop n w) n e)
tables_put (n ∷ ns) w p (suc t) h l e =
    let b : ℕ = base ns t in
    let m : ℕ = get_or ns t 0 in
    let k : length (drop n w) ≡ length w - n = length-drop n w in
    rw (
      take-add n b w,
      append_assoc (take n w) (take b (drop n w)) (p ++ drop m (drop (n + b) w)),
      ← drop-drop b n w,
      take_at (take n w) (put_mid b m (drop n w) p) n (length-take-le n w (omega arith)),
      drop_at (take n w) (put_mid b m (drop n w) p) n (length-take-le n w (omega arith)),
      tables_put ns (drop n w) p t (le_of_suc-le-suc h) (omega arith) e,
    )

-- ---- parts of lists

-- A store before a cut is a store behind it; past the cut it changes nothing.
pub take_set : {A : Type 0} (n : ℕ) (l : List A) (i : ℕ) (a : A) → take n (set l i a) ≡ set (take n l) i a
take_set zero l i a = refl
take_set (suc n) [] i a = refl
take_set (suc n) (x ∷ l) zero a = refl
take_set (suc n) (x ∷ l) (suc i) a = ap (λ (r : List _). x ∷ r) (take_set n l i a)

set_append_right : {A : Type 0} (xs ys : List A) (i : ℕ) (a : A) → set (xs ++ ys) (length xs + i) a ≡ xs ++ set ys i a
set_append_right [] ys i a = rw (zero-add i)
set_append_right (x ∷ xs) ys i a = rw (suc-add (length xs) i) (ap (λ (r : List _). x ∷ r) (set_append_right xs ys i a))

-- ---- the digits of a word

pub digits_length : (n d : ℕ) → length (digits n d) ≡ n
unfolding digits
digits_length zero d = refl
digits_length (suc n) d = ap suc (digits_length n (d / 2))

half_shift : (d g : ℕ) → d / 2 ^ suc g ≡ d / 2 / 2 ^ g
half_shift d g = rw (pow-succ' 2 g) (sym (div-div-eq-div-mul d 2 (2 ^ g)))

pub digits_get : (n d g : ℕ) (b : Bool) → g < n → get_or (digits n d) g b ≡ marked (d / 2 ^ g % 2)
unfolding digits
digits_get zero d g b h = absurd (omega arith)
digits_get (suc n) d zero b h = let e : d / 1 ≡ d = omega arith in rw e
digits_get (suc n) d (suc g) b h = rw (half_shift d g) (digits_get n (d / 2) g b (omega arith))

digits_cons : (n x y m : ℕ) → x ≡ y * 2 + m → m < 2 → digits (suc n) x ≡ marked m ∷ digits n y
unfolding digits
digits_cons n x y m e h =
    let a : x / 2 ≡ y = omega arith in
    let b : x % 2 ≡ m = omega arith in
    rw (a, b)

or_up : (d g : ℕ) → bit_or d (2 ^ suc g) ≡ bit_or (d / 2) (2 ^ g) * 2 + d % 2
or_up d g =
    let a : 2 ^ suc g / 2 ≡ 2 ^ g = omega (arith, pow-suc 2 g) in
    let b : 2 ^ suc g % 2 ≡ 0 = omega (arith, pow-suc 2 g) in
    or_step d (2 ^ suc g) ∙ ap₂ (λ (x y : ℕ). bit_or (d / 2) x * 2 + max (d % 2) y) a b ∙ ap (λ (x : ℕ). bit_or (d / 2) (2 ^ g) * 2 + x) (max-zero (d % 2))

or_one : (d : ℕ) → bit_or d 1 ≡ d / 2 * 2 + 1
or_one d = or_step d 1 ∙ ap₂ (λ (x y : ℕ). x * 2 + y) (or_zero_r (d / 2)) (max-eq_right (omega arith))

-- Digit g is set.
pub digits_or : (n d g : ℕ) → digits n (bit_or d (2 ^ g)) ≡ set (digits n d) g true
unfolding digits
digits_or zero d g = refl
digits_or (suc n) d zero = digits_cons n _ (d / 2) 1 (or_one d) (omega arith)
digits_or (suc n) d (suc g) =
    digits_cons n _ (bit_or (d / 2) (2 ^ g)) (d % 2) (or_up d g) (omega arith) ∙ ap (λ (l : List Bool). marked (d % 2) ∷ l) (digits_or n (d / 2) g)

xor_up : (d g : ℕ) → bit_xor d (2 ^ suc g) ≡ bit_xor (d / 2) (2 ^ g) * 2 + d % 2
xor_up d g =
    let a : 2 ^ suc g / 2 ≡ 2 ^ g = omega (arith, pow-suc 2 g) in
    let b : 2 ^ suc g % 2 ≡ 0 = omega (arith, pow-suc 2 g) in
    xor_step d (2 ^ suc g) ∙ ap₂ (λ (x y : ℕ). bit_xor (d / 2) x * 2 + differ (d % 2) y) a b ∙ ap (λ (x : ℕ). bit_xor (d / 2) (2 ^ g) * 2 + x) (differ_zero (d % 2))
  where
    differ_zero : (x : ℕ) → differ x 0 ≡ x
    differ_zero zero = refl
    differ_zero (suc x) = refl

xor_one : (d : ℕ) → d % 2 ≡ 1 → bit_xor d 1 ≡ d / 2 * 2 + 0
xor_one d h = xor_step d 1 ∙ ap₂ (λ (x y : ℕ). x * 2 + differ y 1) (xor_zero_r (d / 2)) h

odd : (m : ℕ) → m < 2 → marked m ≡ true → m ≡ 1
odd zero l e = absurd (subst T (sym e) tt)
odd (suc zero) l e = refl
odd (suc (suc m)) l e = absurd (omega arith)

-- Digit g, which is set, is cleared.
pub digits_xor : (n d g : ℕ) → get_or (digits n d) g false ≡ true → digits n (bit_xor d (2 ^ g)) ≡ set (digits n d) g false
unfolding digits
digits_xor zero d g h = refl
digits_xor (suc n) d zero h = digits_cons n _ (d / 2) 0 (xor_one d (odd (d % 2) (omega arith) h)) (omega arith)
digits_xor (suc n) d (suc g) h =
    digits_cons n _ (bit_xor (d / 2) (2 ^ g)) (d % 2) (xor_up d g) (omega arith) ∙ ap (λ (l : List Bool). marked (d % 2) ∷ l) (digits_xor n (d / 2) g h)

-- Every digit is cleared.
pub digits_none : (n d : ℕ) → map (λ _. false) (digits n d) ≡ digits n 0
unfolding digits
digits_none zero d = refl
digits_none (suc n) d = ap (λ (l : List Bool). false ∷ l) (digits_none n (d / 2))

-- One digit of 64, as the code has it.
pub one_digit : (g : ℕ) → g < 64 → 1 * 2 ^ g % 2 ^ 64 ≡ 2 ^ g
one_digit g h =
    let e : 1 * 2 ^ g ≡ 2 ^ g = one-mul (2 ^ g) in
    let l : 2 ^ g ≤ 2 ^ 63 = pow_mono {i = g} {j = 63} (omega arith) in
    rw e (mod-eq_of_lt (omega arith))

-- ---- the lowest mark

-- How many stand before the first mark.
unfoldable pub lowest : List Bool → ℕ
lowest [] = 0
lowest (true ∷ bs) = 0
lowest (false ∷ bs) = suc (lowest bs)

zeros_digits : (n d : ℕ) → count_trailing_zeros n d ≡ lowest (digits n d)
unfolding digits lowest count_trailing_zeros
zeros_digits zero d = refl
zeros_digits (suc n) d = ap (under (d % 2)) (zeros_digits n (d / 2)) ∙ go (d % 2)
  where
    go : (m : ℕ) → under m (lowest (digits n (d / 2))) ≡ lowest (marked m ∷ digits n (d / 2))
    go zero = refl
    go (suc m) = rw (ne_eqb (suc m) 0 (λ z. omega arith))

places_first : (n : ℕ) (bs : List Bool) → lowest bs < length bs → places n bs ≡ (n + lowest bs) ∷ places n (set bs (lowest bs) false)
unfolding lowest places
places_first n [] h = absurd (omega arith)
places_first n (true ∷ bs) h = rw (add-zero n)
places_first n (false ∷ bs) h =
    let e : n + suc (lowest bs) ≡ suc n + lowest bs = omega arith in
    rw e (places_first (suc n) bs (omega arith))

-- None is beyond the marks.
places_below : (n : ℕ) (bs : List Bool) (g : ℕ) (r : List ℕ) → places n bs ≡ g ∷ r → g < n + length bs
unfolding places
places_below n [] g r h = cc
places_below n (true ∷ bs) g r h = let e : n ≡ g = cc in omega arith
places_below n (false ∷ bs) g r h = omega (arith, places_below (suc n) bs g r h)

pub bit_below : (d g : ℕ) (r : List ℕ) → places 0 (digits 64 d) ≡ g ∷ r → g < 64
bit_below d g r h = omega (arith, places_below 0 (digits 64 d) g r h, digits_length 64 d)

no_places : (n m : ℕ) → places m (digits n 0) ≡ []
unfolding digits places
no_places zero m = refl
no_places (suc n) m = no_places n (suc m)

lowest_less : (n d : ℕ) → 0 < d → d < 2 ^ n → lowest (digits n d) < n
unfolding digits lowest
lowest_less zero d p h = absurd (omega arith)
lowest_less (suc n) d p h = go (d % 2) refl (omega arith) (λ q. lowest_less n (d / 2) q (omega (arith, pow-suc 2 n)))
  where
    go : (m : ℕ) → d % 2 ≡ m → m < 2 → (0 < d / 2 → lowest (digits n (d / 2)) < n) → lowest (marked m ∷ digits n (d / 2)) < suc n
    go zero e l rec = let q = rec (omega arith) in omega arith
    go (suc zero) e l rec = omega arith
    go (suc (suc m)) e l rec = absurd (omega arith)

-- The lowest mark is cleared.
digits_cleared : (n d : ℕ) → digits n (bit_and d (d - 1)) ≡ set (digits n d) (lowest (digits n d)) false
unfolding digits lowest
digits_cleared zero d = refl
digits_cleared (suc n) d = go (d % 2) refl (omega arith) (digits_cleared n (d / 2))
  where
    go :
        (m : ℕ) → d % 2 ≡ m → m < 2 → digits n (bit_and (d / 2) (d / 2 - 1)) ≡ set (digits n (d / 2)) (lowest (digits n (d / 2))) false →
        digits (suc n) (bit_and d (d - 1)) ≡ set (marked m ∷ digits n (d / 2)) (lowest (marked m ∷ digits n (d / 2))) false
    go zero e l rec =
        let a : (d - 1) / 2 ≡ d / 2 - 1 = omega arith in
        digits_cons n _ (bit_and (d / 2) (d / 2 - 1)) 0 (and_step d (d - 1) ∙ ap₂ (λ (x y : ℕ). bit_and (d / 2) x * 2 + min y ((d - 1) % 2)) a e ∙ ap (λ (x : ℕ). bit_and (d / 2) (d / 2 - 1) * 2 + x) (zero-min ((d - 1) % 2))) (omega arith)
        ∙ ap (λ (r : List Bool). false ∷ r) rec
    go (suc zero) e l rec =
        let a : (d - 1) / 2 ≡ d / 2 = omega arith in
        let b : (d - 1) % 2 ≡ 0 = omega arith in
        digits_cons n _ (d / 2) 0 (and_step d (d - 1) ∙ ap₂ (λ (x y : ℕ). x * 2 + min (d % 2) y) (ap (bit_and (d / 2)) a ∙ and_self (d / 2)) b ∙ ap (λ (x : ℕ). d / 2 * 2 + x) (min-zero (d % 2))) (omega arith)
    go (suc (suc m)) e l rec = absurd (omega arith)

-- A loop over the marks of a word, the lowest first: none is left in 0,
pub last_place : (d : ℕ) → d ≡ 0 → places 0 (digits 64 d) ≡ []
last_place d e = rw e (no_places 64 0)

-- and d & (d - 1) has all but the lowest.
pub next_place : (d g : ℕ) → d < 2 ^ 64 → 0 < d → g ≡ count_trailing_zeros 64 d → (places 0 (digits 64 d) ≡ g ∷ places 0 (digits 64 (bit_and d (d - 1)))) × (g < 64)
next_place d g h p e =
    let q : g ≡ lowest (digits 64 d) = e ∙ zeros_digits 64 d in
    let l = lowest_less 64 d p h in
    let z : 0 + lowest (digits 64 d) ≡ g = omega arith in
    (places_first 0 (digits 64 d) (omega (arith, digits_length 64 d)) ∙ ap₂ (λ (x : ℕ) (r : List ℕ). x ∷ r) z (ap (places 0) (sym (digits_cleared 64 d))), omega arith)

-- ---- the digits of several words

pub marks_length : (ds : List ℕ) → length (marks ds) ≡ 64 * length ds
unfolding marks
marks_length [] = refl
marks_length (d ∷ ds) = omega (arith, length-append (digits 64 d) (marks ds), digits_length 64 d, marks_length ds)

-- A word whose digits are those of word j but for digit b.
pub marks_set :
    (ds : List ℕ) (j b x : ℕ) (v : Bool) → j < length ds → b < 64 → digits 64 x ≡ set (digits 64 (get_or ds j 0)) b v →
    marks (set ds j x) ≡ set (marks ds) (64 * j + b) v
unfolding marks
marks_set [] j b x v h k e = absurd (omega arith)
marks_set (d ∷ ds) zero b x v h k e =
    let z : 64 * 0 + b ≡ b = omega arith in
    rw (z, e) (sym (set-append_left (digits 64 d) (marks ds) b v (omega (arith, digits_length 64 d))))
marks_set (d ∷ ds) (suc j) b x v h k e =
    let n = digits_length 64 d in
    let z : 64 * suc j + b ≡ length (digits 64 d) + (64 * j + b) = omega arith in
    rw (z, set_append_right (digits 64 d) (marks ds) (64 * j + b) v) (ap (λ (r : List Bool). digits 64 d ++ r) (marks_set ds j b x v (omega arith) k e))

pub marks_get : (ds : List ℕ) (j b : ℕ) (v : Bool) → j < length ds → b < 64 → get_or (marks ds) (64 * j + b) v ≡ get_or (digits 64 (get_or ds j 0)) b v
unfolding marks
marks_get [] j b v h k = absurd (omega arith)
marks_get (d ∷ ds) zero b v h k =
    let z : 64 * 0 + b ≡ b = omega arith in
    rw z (get_or-append (digits 64 d) (marks ds) v b (omega (arith, digits_length 64 d)))
marks_get (d ∷ ds) (suc j) b v h k =
    let n = digits_length 64 d in
    let z : 64 * suc j + b ≡ length (digits 64 d) + (64 * j + b) = omega arith in
    rw (z, get_or-append-add (digits 64 d) (marks ds) (64 * j + b) v) (marks_get ds j b v (omega arith) k)

-- ---- words as marks

pub map_marked_set : (l : List ℕ) (i y : ℕ) → map marked (set l i y) ≡ set (map marked l) i (marked y)
map_marked_set [] i y = refl
map_marked_set (x ∷ l) zero y = refl
map_marked_set (x ∷ l) (suc i) y = ap (λ (z : List Bool). marked x ∷ z) (map_marked_set l i y)

pub map_marked_get : (l : List ℕ) (i : ℕ) (b : Bool) → i < length l → get_or (map marked l) i b ≡ marked (get_or l i 0)
map_marked_get [] i b h = absurd (omega arith)
map_marked_get (x ∷ l) zero b h = refl
map_marked_get (x ∷ l) (suc i) b h = map_marked_get l i b (omega arith)

-- ---- a ring

pub ring_length : (n h : ℕ) (r : List ℕ) → length (ring n h r) ≡ n
unfolding ring
ring_length zero h r = refl
ring_length (suc n) h r = ap suc (ring_length n (h + 1) r)

pub ring_push : (n h x : ℕ) (r : List ℕ) → n < 1024 → length r ≡ 1024 → ring (suc n) h (set r ((h % 1024 + n) % 1024) x) ≡ ring n h r ++ (x ∷ [])
unfolding ring
ring_push zero h x r q l =
    let e : (h % 1024 + 0) % 1024 ≡ h % 1024 = omega arith in
    rw (e, get_or-set_same r (h % 1024) x 0 (omega arith))
ring_push (suc n) h x r q l =
    let e : (h % 1024 + suc n) % 1024 ≡ ((h + 1) % 1024 + n) % 1024 = omega arith in
    let d : (h % 1024 ≡ ((h + 1) % 1024 + n) % 1024) → ⊥ = omega arith in
    rw (e, get_or-set_other r (((h + 1) % 1024 + n) % 1024) (h % 1024) x 0 d) (ap (λ (t : List ℕ). get_or r (h % 1024) 0 ∷ t) (ring_push n (h + 1) x r (omega arith) l))

ring_turns : (n h k : ℕ) (r : List ℕ) → h % 1024 ≡ k % 1024 → ring n h r ≡ ring n k r
unfolding ring
ring_turns zero h k r e = refl
ring_turns (suc n) h k r e = ap₂ (λ (x : ℕ) (q : List ℕ). get_or r x 0 ∷ q) e (ring_turns n (h + 1) (k + 1) r (omega arith))

pub ring_pop : (n h : ℕ) (r : List ℕ) → (n ≡ 0 → ⊥) → ring n h r ≡ get_or r (h % 1024) 0 ∷ ring (n - 1) (h % 1024 + 1) r
unfolding ring
ring_pop zero h r z = absurd (z refl)
ring_pop (suc n) h r z =
    let u : suc n - 1 ≡ n = omega arith in
    rw u (ap (λ (q : List ℕ). get_or r (h % 1024) 0 ∷ q) (ring_turns n (h + 1) (h % 1024 + 1) r (omega arith)))

-- ---- a stack

pub stack_length : (n : ℕ) (r : List ℕ) → length (stack n r) ≡ n
unfolding stack
stack_length zero r = refl
stack_length (suc n) r = ap suc (stack_length n r)

stack_above : (n i x : ℕ) (r : List ℕ) → n ≤ i → stack n (set r i x) ≡ stack n r
unfolding stack
stack_above zero i x r h = refl
stack_above (suc n) i x r h = rw (get_or-set_other r i n x 0 (omega arith), stack_above n i x r (omega arith))

pub stack_push : (n x : ℕ) (r : List ℕ) → n < length r → stack (suc n) (set r n x) ≡ x ∷ stack n r
unfolding stack
stack_push n x r h = rw (get_or-set_same r n x 0 h, stack_above n n x r (omega arith))

-- ---- how many marks a word has

-- some: it is not 0
pub ones_some : (d : ℕ) → (ones d ≡ 0 → ⊥) → 0 < d
unfolding ones
ones_some zero h = absurd (h refl)
ones_some (suc d) h = omega arith

no_ones : (k d : ℕ) → d < 2 ^ k → ones d ≤ 0 → d ≤ 0
no_ones zero d h l = omega arith
no_ones (suc k) d h l =
    let e = ones_step d in
    let p : 2 ^ suc k ≡ 2 ^ k * 2 = pow-suc 2 k in
    let q : d / 2 ≤ 0 = no_ones k (d / 2) (omega arith) (omega arith) in
    omega arith

-- none: it is 0
pub ones_none : (d : ℕ) → d < 2 ^ 64 → ones d ≡ 0 → d ≡ 0
ones_none d h e = omega (arith, no_ones 64 d h (omega arith))
