-- Tick lengths. The bits of f64s from 0.0 on are in the order of the f64s, and those from 2^63 on are negative: only -0.0 is not below 0.0.
use Prim.Native.Nat.{ℕ, zero, suc, ◌+◌, ◌*◌, ◌%◌, ◌^◌, ◌≤◌, ◌<◌, zero-le}
use mathlib.Core.Path.{◌≡◌, refl, sym, ap, ◌∙◌, subst}
use mathlib.Core.Bool.{Bool, true, false, ◌&&◌, and-false, true≢false}
use mathlib.Core.Logic.{inl, inr}
use native.Mathlib.Nat.{lt_of_lt_of_le, le_trans, le_of_eq, le_of_lt, eq-or-lt_of_le, mul-le-mul_right, le_of_mul-le-mul_right, mul-lt-mul_of_pos_right, mul-pos, zero-mul, mul-one}
use native.Mathlib.Omega.{arith}
use borrow.Author.Tests.{lt-ltb, le-ltb, le-leb, lt-leb, ltb-true, ltb-false, leb-true, leb-false, ne_eqb}
use lib.Dec.{T, leb, ltb}
use lib.IntN.{pos}
use lib.Ieee.{Float, nan, inf, fin, binary64, up, down, of_fields, of_bits, le}
use lib.Ieee.Exact.{HasValue, odd_sign}
use lib.Ieee.Order.{le_of_values}
use lib.Ieee.Positive.{positive_of_value, values_of_le, first_pos, den_pos}
use lib.Pow.{pow_pos, pow_mono, pow-add, shl_lt}
use Rattle.floats.proofs.Bits.{negative, exponent, digits, fields_zero, fields_number, finite_is}
use Rattle.model.specs.Value.{le64}
use Rattle.model.specs.Questions.{finite, good_length}

-- The bits 0x8000000000000000 are -0.0's, 0x7FF0000000000000 infinity's, 0x40AC200000000000 those of 3,600.0.

-- ---- the size of an f64

-- by the two fields, in units of the least f64, 2^-1074
abbrev magnitude : ℕ → ℕ → ℕ
magnitude zero t = t * 2 ^ 0
magnitude (suc x) t = (0x10000000000000 + t) * 2 ^ x

-- by the bits
abbrev magnitude_of : ℕ → ℕ
magnitude_of b = magnitude (exponent b) (digits b)

valued : (s : Bool) (x t : ℕ) → x < 2047 → HasValue (of_fields binary64 s x t) s (magnitude x t) (2 ^ 1074)
valued s zero t h = subst (λ (f : Float). HasValue f s (t * 2 ^ 0) (2 ^ 1074)) (sym (fields_zero s t)) (odd_sign 53 s t 0 1074)
valued s (suc x) t h = subst (λ (f : Float). HasValue f s ((0x10000000000000 + t) * 2 ^ x) (2 ^ 1074)) (sym (fields_number s x t h)) (odd_sign 53 s (0x10000000000000 + t) x 1074)

value_of_bits : (s : Bool) (b : ℕ) → negative b ≡ s → exponent b < 2047 → HasValue (of_bits binary64 b) s (magnitude_of b) (2 ^ 1074)
unfolding of_bits
value_of_bits s b e h = rw e (valued s (exponent b) (digits b) h)

-- ---- the order

next_exponent : (x t : ℕ) → t < 0x10000000000000 → magnitude x t < 2 ^ (52 + x)
next_exponent zero t h = shl_lt 52 0 h
next_exponent (suc x) t h =
    let e : 53 + x ≡ 52 + suc x = omega arith in
    subst (λ (n : ℕ). (0x10000000000000 + t) * 2 ^ x < 2 ^ n) e (shl_lt 53 x (omega arith))

from_exponent : (x t : ℕ) → 2 ^ (52 + x) ≤ magnitude (suc x) t
from_exponent x t = le_trans (le_of_eq (pow-add 2 52 x)) (mul-le-mul_right (2 ^ x) (omega arith))

by_exponent : (x t y u : ℕ) → t < 0x10000000000000 → x < y → magnitude x t < magnitude y u
by_exponent x t zero u h l = absurd (omega arith)
by_exponent x t (suc y) u h l =
    let k : 52 + x ≤ 52 + y = omega arith in
    lt_of_lt_of_le (next_exponent x t h) (le_trans (pow_mono k) (from_exponent y u))

by_digits : (x t u : ℕ) → t < u → magnitude x t < magnitude x u
by_digits zero t u h = mul-lt-mul_of_pos_right h (pow_pos 0)
by_digits (suc x) t u h = mul-lt-mul_of_pos_right (omega arith) (pow_pos x)

-- Below 2^63 larger bits are a larger size.
in_order : (a b : ℕ) → a < b → b < 0x8000000000000000 → magnitude_of a < magnitude_of b
in_order a b l h = go (ltb (exponent a) (exponent b)) refl
  where
    go : (t : Bool) → ltb (exponent a) (exponent b) ≡ t → magnitude_of a < magnitude_of b
    go true e = by_exponent (exponent a) (digits a) (exponent b) (digits b) (omega arith) (ltb-true (exponent a) (exponent b) e)
    go false e =
        let k : exponent b ≤ exponent a = ltb-false (exponent a) (exponent b) e in
        let q : exponent a ≡ exponent b = omega arith in
        subst (λ (x : ℕ). magnitude_of a < magnitude x (digits b)) q (by_digits (exponent a) (digits a) (digits b) (omega arith))

in_order_le : (a b : ℕ) → a ≤ b → b < 0x8000000000000000 → magnitude_of a ≤ magnitude_of b
in_order_le a b l h = elim (eq-or-lt_of_le l) [ inl e ↦ le_of_eq (ap magnitude_of e) | inr k ↦ le_of_lt (in_order a b k h) ]

-- ---- comparisons by the bits

no_infinity : (b : ℕ) → b < 0x7FF0000000000000 → exponent b < 2047
no_infinity b l = omega arith

is_yes : (t : Bool) → T t → t ≡ true
is_yes true h = refl
is_yes false h = absurd h

is_no : (t : Bool) → (T t → ⊥) → t ≡ false
is_no true h = absurd (h tt)
is_no false h = refl

bits_le : (a b : ℕ) → a ≤ b → b < 0x7FF0000000000000 → le64 a b ≡ true
unfolding le64
bits_le a b l h =
    is_yes (le (of_bits binary64 a) (of_bits binary64 b))
    (le_of_values (of_bits binary64 a) (of_bits binary64 b) (magnitude_of a) (2 ^ 1074) (magnitude_of b) (2 ^ 1074) (pow_pos 1074) (pow_pos 1074)
    (value_of_bits false a (lt-leb 0x8000000000000000 a (omega arith)) (no_infinity a (omega arith))) (value_of_bits false b (lt-leb 0x8000000000000000 b (omega arith)) (no_infinity b h))
    (mul-le-mul_right (2 ^ 1074) (in_order_le a b l (omega arith))))

bits_gt : (a b : ℕ) → 0 < a → a < b → b < 0x7FF0000000000000 → le64 b a ≡ false
unfolding le64
bits_gt a b p l h =
    let va = value_of_bits false a (lt-leb 0x8000000000000000 a (omega arith)) (no_infinity a (omega arith)) in
    let vb = value_of_bits false b (lt-leb 0x8000000000000000 b (omega arith)) (no_infinity b h) in
    let k : magnitude_of a < magnitude_of b = in_order a b l (omega arith) in
    let z : magnitude_of 0 < magnitude_of a = in_order 0 a p (omega arith) in
    let za : 0 < magnitude_of a = omega arith in
    let zb : 0 < magnitude_of b = omega arith in
    is_no (le (of_bits binary64 b) (of_bits binary64 a))
    (λ t. clash (magnitude_of a) (magnitude_of b) k
    (le_of_mul-le-mul_right (values_of_le (of_bits binary64 b) (of_bits binary64 a) (magnitude_of b) (2 ^ 1074) (magnitude_of a) (2 ^ 1074)
    (positive_of_value (of_bits binary64 b) (magnitude_of b) (2 ^ 1074) vb zb) (positive_of_value (of_bits binary64 a) (magnitude_of a) (2 ^ 1074) va za) vb va t) (pow_pos 1074)))
  where
    clash : (x y : ℕ) → x < y → y ≤ x → ⊥
    clash x y h k = omega arith

-- ---- what is negative, and not zero, is below 0.0

some_magnitude : (x t : ℕ) → 0 < x * 0x10000000000000 + t → 0 < magnitude x t
some_magnitude zero t h = mul-pos (omega arith) (pow_pos 0)
some_magnitude (suc x) t h = mul-pos (omega arith) (pow_pos x)

below_zero : (y : Float) (a c : ℕ) → 0 < a → HasValue y true a c → le (fin false 0 (pos 0)) y ≡ false
unfolding le
below_zero nan a c p h = absurd h
below_zero (inf s) a c p h = absurd h
below_zero (fin false n d) a c p h = absurd (true≢false (sym h.0))
below_zero (fin true n d) a c p h =
    let k : 0 < n * up d * c = subst (λ (z : ℕ). 0 < z) (sym h.1) (mul-pos p (den_pos (fin true n d))) in
    let m : 0 < n * up d = first_pos (n * up d) c k in
    rw (ne_eqb (0 * up (pos 0) * down d) (n * up d * down (pos 0)) (λ z. let e : n * up d ≡ 0 = sym (mul-one (n * up d)) ∙ sym z ∙ zero-mul (down d) in omega arith))

bits_negative : (b : ℕ) → 0x8000000000000000 < b → b < 0x10000000000000000 → exponent b < 2047 → le64 0 b ≡ false
unfolding le64 of_bits
bits_negative b l h k =
    below_zero (of_bits binary64 b) (magnitude_of b) (2 ^ 1074) (some_magnitude (exponent b) (digits b) (omega arith)) (value_of_bits true b (le-leb 0x8000000000000000 b (omega arith)) k)

-- ---- good lengths

-- -0.0
pub minus_zero : true ≡ good_length 0x8000000000000000
unfolding good_length finite le64 le of_bits
minus_zero = refl

up_to_hour : (b : ℕ) → b ≤ 0x40AC200000000000 → true ≡ good_length b
unfolding good_length
up_to_hour b l =
    let f : finite b ≡ true = sym (finite_is b) ∙ lt-ltb (b % 0x8000000000000000) 0x7FF0000000000000 (omega arith) in
    rw (f, bits_le 0 b zero-le (omega arith), bits_le b 0x40AC200000000000 l (omega arith))

not_finite : (b : ℕ) → 0x7FF0000000000000 ≤ b % 0x8000000000000000 → false ≡ good_length b
unfolding good_length
not_finite b l = rw (sym (finite_is b) ∙ le-ltb (b % 0x8000000000000000) 0x7FF0000000000000 l)

too_long : (b : ℕ) → le64 b 0x40AC200000000000 ≡ false → false ≡ good_length b
unfolding good_length
too_long b e = rw e (sym (and-false (finite b && le64 0 b)))

too_early : (b : ℕ) → le64 0 b ≡ false → false ≡ good_length b
unfolding good_length
too_early b e = rw (e, and-false (finite b))

past_zero : (b : ℕ) → 0x8000000000000000 ≤ b → (b ≡ 0x8000000000000000 → ⊥) → 0x8000000000000000 < b
past_zero b c n = elim (eq-or-lt_of_le c) [ inl e ↦ absurd (n (sym e)) | inr k ↦ k ]

past_hour : (b : ℕ) → b < 0x10000000000000000 → 0x40AC200000000000 < b → (b ≡ 0x8000000000000000 → ⊥) → false ≡ good_length b
past_hour b w l n = go (ltb (b % 0x8000000000000000) 0x7FF0000000000000) (ltb b 0x8000000000000000) refl refl
  where
    go : (t u : Bool) → ltb (b % 0x8000000000000000) 0x7FF0000000000000 ≡ t → ltb b 0x8000000000000000 ≡ u → false ≡ good_length b
    go false u e k = not_finite b (ltb-false (b % 0x8000000000000000) 0x7FF0000000000000 e)
    go true true e k =
        let a = ltb-true (b % 0x8000000000000000) 0x7FF0000000000000 e in
        let c = ltb-true b 0x8000000000000000 k in
        too_long b (bits_gt 0x40AC200000000000 b (omega arith) l (omega arith))
    go true false e k =
        let a = ltb-true (b % 0x8000000000000000) 0x7FF0000000000000 e in
        let c = ltb-false b 0x8000000000000000 k in
        too_early b (bits_negative b (past_zero b c n) w (omega arith))

-- Any other bits than -0.0's.
pub by_bits : (b : ℕ) → b < 0x10000000000000000 → (b ≡ 0x8000000000000000 → ⊥) → leb b 0x40AC200000000000 ≡ good_length b
by_bits b w n = go (leb b 0x40AC200000000000) refl
  where
    go : (t : Bool) → leb b 0x40AC200000000000 ≡ t → t ≡ good_length b
    go true e = up_to_hour b (leb-true b 0x40AC200000000000 e)
    go false e = past_hour b w (leb-false b 0x40AC200000000000 e) n
