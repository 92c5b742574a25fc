-- Rounding to an f32, and the bits of the result: what `round`, `units` and `to_bits` of `lib.Ieee` give at binary32.
use Rattle.std.proofs.Common.{◌≡◌, ℕ, suc, ◌+◌, ◌-◌, ◌*◌, ◌/◌, ◌%◌, ◌^◌, ◌<◌, ◌≤◌, Bool, true, false, cond, not, T, ltb, ◌⊎◌, sym, refl, ap, ◌∙◌, subst, inl, inr, le_trans, le_of_eq, lt_of_lt_of_le, le_of_lt, add_assoc, mul-le-mul_right, mod-eq_of_lt, mul_assoc, mul_comm, eq-or-lt_of_le, mul-pos, lt_of_not-le, le-div_iff_mul-le, mul_right_comm, not-le_of_lt, mul-div_cancel, add-one, arith, lit<, lit≤, eqb→eq, ltb→lt, leb→le, pow_pos, pow_mono, pow-add, shl_lt, shr_lt}
use Prim.Native.Nat.{compare, Ordering}
use native.Mathlib.Nat.{pow-succ', div-eq_of_lt}
use lib.Dec.{is_le, compare_is_eq, nleb→lt}
use lib.Pow.{pow-lt, shl-shr}
use lib.Ieee.{Float, nan, inf, fin, binary32, up, down, size, nearest, odd, units, round, to_bits}
use lib.Ieee.Digits.{size-lt, size-le}
use lib.Ieee.Fits.{eq→eqb, down_pos, round_is, nearest-le}
use lib.Ieee.Exact.{HasValue, odd_sign, units_val}
use lib.Ieee.Nearest.{closest, closest_same, div_same, nearest-ge}
use lib.Ieee.Scale.{round_same}
use Rattle.model.specs.Value.{nearest32}

-- ---- how many binary digits

size_is : (n j : ℕ) → 2 ^ j ≤ n → n < 2 ^ suc j → size n ≡ suc j
size_is n j a b = between (size n) j (lt_of_not-le (λ (g : size n ≤ j). not-le_of_lt (lt_of_lt_of_le (size-lt n) (pow_mono g)) a)) (size-le n (suc j) b)
  where
    between : (z j : ℕ) → j < z → z ≤ suc j → z ≡ suc j
    between z j a b = omega arith

-- ---- `closest`, the quotient to the nearest whole number

-- `nearest` takes the quotient w, a tie to the even number, or the one above, as a compares with b.
pub nearest_below : (w a b : ℕ) → a < b → nearest w (compare a b) ≡ w
nearest_below w a b h = go (compare a b) (nleb→lt a b) (eqb→eq a b)
  where
    go : (o : Ordering) → (T (not (is_le o)) → b < a) → (T (compare_is_eq o) → a ≡ b) → nearest w o ≡ w
    go Ordering.lt l e = refl
    go Ordering.eq l e = absurd (not-le_of_lt h (le_of_eq (sym (e tt))))
    go Ordering.gt l e = absurd (not-le_of_lt h (le_of_lt (l tt)))

pub nearest_tie : (w a b : ℕ) → a ≡ b → nearest w (compare a b) ≡ w + w % 2
nearest_tie w a b h = go (compare a b) (eq→eqb h)
  where
    go : (o : Ordering) → T (compare_is_eq o) → nearest w o ≡ w + w % 2
    go Ordering.lt e = absurd e
    go Ordering.eq e = refl
    go Ordering.gt e = absurd e

pub nearest_above : (w a b : ℕ) → b < a → nearest w (compare a b) ≡ w + 1
nearest_above w a b h = go (compare a b) (leb→le a b)
  where
    go : (o : Ordering) → (T (is_le o) → a ≤ b) → nearest w o ≡ w + 1
    go Ordering.lt l = absurd (not-le_of_lt h (l tt))
    go Ordering.eq l = absurd (not-le_of_lt h (l tt))
    go Ordering.gt l = sym (add-one w)

-- q of at most 53 digits keeps at most 24 of them where 29 or more are cut off.
kept : (q h : ℕ) → q < 2 ^ 53 → 29 ≤ h → q / 2 ^ h < 2 ^ 24
kept q h l g = shr_lt 24 h (lt_of_lt_of_le l (pow_mono (room h g)))
  where
    room : (h : ℕ) → 29 ≤ h → 53 ≤ 24 + h
    room h g = omega arith

pub closest_most : (q h : ℕ) → q < 2 ^ 53 → 29 ≤ h → closest q (2 ^ h) ≤ 2 ^ 24
closest_most q h l g = le_trans (nearest-le (q / 2 ^ h) (compare (q % 2 ^ h * 2) (2 ^ h))) (kept q h l g)

pub closest_least : (q : ℕ) → 2 ^ 52 ≤ q → 2 ^ 23 ≤ closest q (2 ^ 29)
closest_least q l = le_trans ((le-div_iff_mul-le (pow_pos 29)).1 l) (nearest-ge (q / 2 ^ 29) (compare (q % 2 ^ 29 * 2) (2 ^ 29)))

-- Less than a half is rounded to 0.
pub closest_none : (q h : ℕ) → q * 2 < 2 ^ h → closest q (2 ^ h) ≡ 0
closest_none q h l =
    let u = 2 ^ h in
    let s : q < u = half q u l in
    ap (λ (x : ℕ). nearest x (compare (q % u * 2) u)) (div-eq_of_lt s)
    ∙ ap (λ (x : ℕ). nearest 0 (compare (x * 2) u)) (mod-eq_of_lt s)
    ∙ nearest_below 0 (q * 2) u l
  where
    half : (q u : ℕ) → q * 2 < u → q < u
    half q u l = omega arith

-- ---- rounding a fraction

-- `nearest32` sees the value only, not how it is written.
nearest32_value : (v : Float) (s : Bool) (a c : ℕ) → 0 < c → HasValue v s a c → nearest32 v ≡ round binary32 s a c
unfolding nearest32
nearest32_value nan s a c p h = absurd h
nearest32_value (inf t) s a c p h = absurd h
nearest32_value (fin t m e) s a c p h =
    ap (λ (b : Bool). round binary32 b (m * up e) (down e)) h.0 ∙ round_same binary32 s (m * up e) (down e) a c (down_pos e) p h.1

-- q * 2^k / 2^h of the smallest f32s, where k digits of the whole part are dropped: the quotient q / 2^h is rounded.
round_at : (s : Bool) (q k h : ℕ) → size (q * 2 ^ k / 2 ^ h) - 24 ≡ k → round binary32 s (q * 2 ^ k) (2 ^ (149 + h)) ≡ units binary32 s (closest q (2 ^ h)) k
round_at s q k h e =
    let n = q * 2 ^ k * 2 ^ 149 in
    let den = 2 ^ (149 + h) in
    let same : n * 2 ^ h ≡ q * 2 ^ k * den = mul_assoc (q * 2 ^ k) (2 ^ 149) (2 ^ h) ∙ ap (λ (x : ℕ). q * 2 ^ k * x) (sym (pow-add 2 149 h)) in
    let units_same : n * 2 ^ h ≡ q * (den * 2 ^ k) = same ∙ mul_assoc q (2 ^ k) den ∙ ap (λ (x : ℕ). q * x) (mul_comm (2 ^ k) den) in
    let w : n / den ≡ q * 2 ^ k / 2 ^ h = div_same n den (q * 2 ^ k) (2 ^ h) (pow_pos (149 + h)) (pow_pos h) same in
    let d : size (n / den) - 24 ≡ k = ap (λ (x : ℕ). size x - 24) w ∙ e in
    round_is binary32 s (q * 2 ^ k) den
    ∙ ap (λ (x : ℕ). units binary32 s (closest n (den * 2 ^ x)) x) d
    ∙ ap (λ (x : ℕ). units binary32 s x k) (closest_same n (den * 2 ^ k) q (2 ^ h) (mul-pos (pow_pos (149 + h)) (pow_pos k)) (pow_pos h) units_same)

-- The number q * 2^K / 2^1074, as an f64 holds it, in smallest f32s.
narrow_at : (s : Bool) (q K k h : ℕ) → k + 925 ≡ h + K → size (q * 2 ^ k / 2 ^ h) - 24 ≡ k
    → nearest32 (odd 53 s q K 1074) ≡ units binary32 s (closest q (2 ^ h)) k
narrow_at s q K k h e d =
    nearest32_value (odd 53 s q K 1074) s (q * 2 ^ K) (2 ^ 1074) (pow_pos 1074) (odd_sign 53 s q K 1074)
    ∙ round_same binary32 s (q * 2 ^ K) (2 ^ 1074) (q * 2 ^ k) (2 ^ (149 + h)) (pow_pos 1074) (pow_pos (149 + h)) (shift q K k 1074 (149 + h) (omega arith))
    ∙ round_at s q k h d
  where
    shift : (q a b c d : ℕ) → a + d ≡ b + c → q * 2 ^ a * 2 ^ d ≡ q * 2 ^ b * 2 ^ c
    shift q a b c d h =
        mul_assoc q (2 ^ a) (2 ^ d) ∙ ap (λ (x : ℕ). q * x) (sym (pow-add 2 a d) ∙ ap (λ (x : ℕ). 2 ^ x) h ∙ pow-add 2 b c) ∙ sym (mul_assoc q (2 ^ b) (2 ^ c))

-- Where 29 digits or more lie behind the point no further one is dropped.
drop_none : (q h : ℕ) → q < 2 ^ 53 → 29 ≤ h → size (q * 2 ^ 0 / 2 ^ h) - 24 ≡ 0
drop_none q h l g =
    let z : size (q * 2 ^ 0 / 2 ^ h) ≤ 24 = size-le (q * 2 ^ 0 / 2 ^ h) 24 (kept (q * 2 ^ 0) h (shl_lt 53 0 l) g) in
    omega arith

-- Of 53 digits and k zeros, less 29, k are dropped.
drop_some : (q k : ℕ) → 2 ^ 52 ≤ q → q < 2 ^ 53 → size (q * 2 ^ k / 2 ^ 29) - 24 ≡ k
drop_some q k a b =
    let lo : 2 ^ (23 + k) * 2 ^ 29 ≤ q * 2 ^ k = le_trans (le_of_eq (ap (λ (x : ℕ). x * 2 ^ 29) (pow-add 2 23 k) ∙ mul_right_comm (2 ^ 23) (2 ^ k) (2 ^ 29))) (mul-le-mul_right (2 ^ k) a) in
    let hi : q * 2 ^ k < 2 ^ (suc (23 + k) + 29) = lt_of_lt_of_le (shl_lt 53 k b) (pow_mono (room k)) in
    let z : size (q * 2 ^ k / 2 ^ 29) ≡ suc (23 + k) = size_is (q * 2 ^ k / 2 ^ 29) (23 + k) ((le-div_iff_mul-le (pow_pos 29)).1 lo) (shr_lt (suc (23 + k)) 29 hi) in
    omega arith
  where
    room : (k : ℕ) → 53 + k ≤ suc (23 + k) + 29
    room k = omega arith

-- ---- the bits of the result

-- The bits, but for the sign, of a smallest f32s.
abbrev pattern : ℕ → ℕ
pattern a = (size a - 24) * 8388608 + a / 2 ^ (size a - 24)

pattern_at : (a k : ℕ) → size a - 24 ≡ k → pattern a ≡ k * 8388608 + a / 2 ^ k
pattern_at a k e = ap (λ (x : ℕ). x * 8388608 + a / 2 ^ x) e

-- 24 digits and k zeros: the leading digit adds one to the exponent's field.
pattern_normal : (q k : ℕ) → 8388608 ≤ q → q < 16777216 → pattern (q * 2 ^ k) ≡ k * 8388608 + q
pattern_normal q k a b =
    let z : size (q * 2 ^ k) ≡ suc (23 + k) = size_is (q * 2 ^ k) (23 + k) (le_trans (le_of_eq (pow-add 2 23 k)) (mul-le-mul_right (2 ^ k) a)) (lt_of_lt_of_le (shl_lt 24 k b) (pow_mono (room k))) in
    pattern_at (q * 2 ^ k) k (omega arith) ∙ ap (λ (x : ℕ). k * 8388608 + x) (shl-shr q k)
  where
    room : (k : ℕ) → 24 + k ≤ suc (23 + k)
    room k = omega arith

-- at most 24 digits
pattern_low : (q : ℕ) → q < 16777216 → pattern (q * 2 ^ 0) ≡ q
pattern_low q b =
    let z : size (q * 2 ^ 0) ≤ 24 = size-le (q * 2 ^ 0) 24 (shl_lt 24 0 b) in
    pattern_at (q * 2 ^ 0) 0 (omega arith) ∙ plain q (q * 2 ^ 0 / 2 ^ 0) (shl-shr q 0)
  where
    plain : (q x : ℕ) → x ≡ q → 0 * 8388608 + x ≡ q
    plain q x e = omega arith

-- 24 digits that were rounded up to a 25th: one more in the exponent's field, and no digits
pattern_carry : (k : ℕ) → pattern (16777216 * 2 ^ k) ≡ k * 8388608 + 16777216
pattern_carry k =
    ap pattern (mul_assoc 8388608 2 (2 ^ k) ∙ ap (λ (x : ℕ). 8388608 * x) (sym (pow-succ' 2 k)))
    ∙ pattern_normal 8388608 (suc k) (lit≤ tt) (lit< tt)
    ∙ one_more k
  where
    one_more : (k : ℕ) → suc k * 8388608 + 8388608 ≡ k * 8388608 + 16777216
    one_more k = omega arith

written : (v : Float) (s : Bool) (a p : ℕ) → HasValue v s a (2 ^ 149) → pattern a ≡ p → to_bits binary32 v ≡ cond s 2147483648 0 + p
unfolding to_bits
written nan s a p h e = absurd h
written (inf t) s a p h e = absurd h
written (fin t m e) s a p h g =
    let n : m * up e * 2 ^ 149 / down e ≡ a = ap (λ (x : ℕ). x / down e) h.1 ∙ mul-div_cancel a (down_pos e) in
    ap (λ (x : ℕ). cond t 2147483648 0 + (size x - 24) * 8388608 + x / 2 ^ (size x - 24)) n
    ∙ add_assoc (cond t 2147483648 0) ((size a - 24) * 8388608) (a / 2 ^ (size a - 24))
    ∙ ap (λ (x : ℕ). cond t 2147483648 0 + x) g
    ∙ ap (λ (b : Bool). cond b 2147483648 0 + p) h.0

-- below 2^128, which is 2^277 smallest f32s
units_in : (s : Bool) (q k p : ℕ) → q * 2 ^ k < 2 ^ 277 → pattern (q * 2 ^ k) ≡ p → to_bits binary32 (units binary32 s q k) ≡ cond s 2147483648 0 + p
units_in s q k p h g = written (units binary32 s q k) s (q * 2 ^ k) p (units_val binary32 s q k h) g

-- From 2^128 on it is an infinity.
pub units_over : (s : Bool) (q k : ℕ) → 2 ^ 277 ≤ q * 2 ^ k → to_bits binary32 (units binary32 s q k) ≡ cond s 2147483648 0 + 2139095040
unfolding units to_bits
units_over s q k h = go (ltb (q * 2 ^ k) (2 ^ 277)) (ltb→lt (q * 2 ^ k) (2 ^ 277))
  where
    go : (b : Bool) → (T b → q * 2 ^ k < 2 ^ 277) → to_bits binary32 (cond b (odd 25 s q k 149) (inf s)) ≡ cond s 2147483648 0 + 2139095040
    go true l = absurd (not-le_of_lt (l tt) h)
    go false l = refl

units_low : (s : Bool) (q : ℕ) → q < 16777216 → to_bits binary32 (units binary32 s q 0) ≡ cond s 2147483648 0 + q
units_low s q l = units_in s q 0 q (lt_of_lt_of_le (shl_lt 24 0 l) (lit≤ tt)) (pattern_low q l)

-- A carry out of the digits, and out of the largest f32 into an infinity, comes out of the sum.
pub units_normal : (s : Bool) (q k : ℕ) → 8388608 ≤ q → q ≤ 16777216 → k ≤ 253 → to_bits binary32 (units binary32 s q k) ≡ cond s 2147483648 0 + (k * 8388608 + q)
units_normal s q k a b c = go (eq-or-lt_of_le b) (eq-or-lt_of_le c)
  where
    Goal : ℕ → ℕ → Type 0
    Goal q k = to_bits binary32 (units binary32 s q k) ≡ cond s 2147483648 0 + (k * 8388608 + q)

    fit : (k : ℕ) → k ≤ 253 → 24 + k ≤ 277
    fit k c = omega arith

    under : (k : ℕ) → k < 253 → 24 + k < 277
    under k n = omega arith

    go : (q ≡ 16777216) ⊎ (q < 16777216) → (k ≡ 253) ⊎ (k < 253) → Goal q k
    go (inr l) n = units_in s q k (k * 8388608 + q) (lt_of_lt_of_le (shl_lt 24 k l) (pow_mono (fit k c))) (pattern_normal q k a l)
    go (inl e) (inl z) = subst (λ (x : ℕ). Goal x k) (sym e) (subst (λ (x : ℕ). Goal 16777216 x) (sym z) (units_over s 16777216 253 (lit≤ tt)))
    go (inl e) (inr n) = subst (λ (x : ℕ). Goal x k) (sym e) (units_in s 16777216 k (k * 8388608 + 16777216) (subst (λ (x : ℕ). x < 2 ^ 277) (pow-add 2 24 k) (pow-lt (under k n))) (pattern_carry k))

-- ---- the bits of a narrowed f64

-- q * 2^K / 2^1074 with no digit dropped: below the least normal f32
pub narrow_low : (s : Bool) (q K h : ℕ) → q < 2 ^ 53 → 29 < h → 925 ≡ h + K → cond s 2147483648 0 + closest q (2 ^ h) ≡ to_bits binary32 (nearest32 (odd 53 s q K 1074))
narrow_low s q K h l g e =
    let small : q / 2 ^ h < 2 ^ 23 = shr_lt 23 h (lt_of_lt_of_le l (pow_mono (room h g))) in
    sym (ap (to_bits binary32) (narrow_at s q K 0 h e (drop_none q h l (omega arith))) ∙ units_low s (closest q (2 ^ h)) (below (closest q (2 ^ h)) (q / 2 ^ h) (nearest-le (q / 2 ^ h) (compare (q % 2 ^ h * 2) (2 ^ h))) small))
  where
    room : (h : ℕ) → 29 < h → 53 ≤ 23 + h
    room h g = omega arith

    below : (c w : ℕ) → c ≤ suc w → w < 2 ^ 23 → c < 16777216
    below c w a b = omega arith

-- q of 53 digits with k of them dropped
pub narrow_high : (s : Bool) (q K k : ℕ) → 2 ^ 52 ≤ q → q < 2 ^ 53 → k + 896 ≡ K → nearest32 (odd 53 s q K 1074) ≡ units binary32 s (closest q (2 ^ 29)) k
narrow_high s q K k a b e = narrow_at s q K k 29 (omega arith) (drop_some q k a b)
