-- The Int of an f64, from its fields: the laws of `whole_part`, `with_sign` and `to_int`.
use Rattle.std.proofs.Common.{◌≡◌, ℕ, zero, suc, ◌+◌, ◌-◌, ◌*◌, ◌/◌, ◌%◌, ◌^◌, ◌<◌, ◌≤◌, min, Bool, true, false, cond, ◌⊎◌, ℤ, pos, negsuc, ◌-ℤ◌, neg_ℤ, sym, refl, ap, ◌∙◌, subst, inl, inr, le_trans, lt_of_lt_of_le, le_of_lt, mul_assoc, mul-le-mul, eq-or-lt_of_le, le-div_iff_mul-le, arith, lit≤, pow_pos, pow_mono, pow-add, shl_lt, shl_exact, to_z-of_z, w64, SFits, to_z, of_z, le-leb}
use native.Mathlib.Nat.{min-eq_left, min-eq_right, div-eq_of_lt}
use lib.IntN.{+ℤ_idl}
use mir.Facts.{to_z_pos}
use borrow.Author.Tests.{lt-leb}
use lib.Pow.{shl-shr}
use lib.Ieee.{Float, nan, inf, fin, up, down, binary64, odd, of_bits, of_fields, to_signed}
use lib.Ieee.Fits.{down_pos}
use lib.Ieee.Exact.{HasValue, odd_sign}
use lib.Ieee.Nearest.{div_same}
use Rattle.model.specs.Value.{to_int}
use Rattle.floats.proofs.Bits.{negative, exponent, digits, nan_above, fields_zero, fields_number, digits_lt}

-- ---- `whole_part`

-- (2^52 + t) * 2^(x - 1) of the smallest f64s, without the fraction
abbrev whole : ℕ → ℕ → ℕ
whole x t = (4503599627370496 + t) * 2 ^ (x - 1) / 2 ^ 1074

-- Digits behind the point are cut off.
pub whole_right : (q x : ℕ) → 1023 ≤ x → x < 1075 → q / 2 ^ (1075 - x) ≡ q * 2 ^ (x - 1) / 2 ^ 1074
whole_right q x a b =
    div_same q (2 ^ (1075 - x)) (q * 2 ^ (x - 1)) (2 ^ 1074) (pow_pos (1075 - x)) (pow_pos 1074)
    (ap (λ (n : ℕ). q * 2 ^ n) (all x a b) ∙ ap (λ (n : ℕ). q * n) (pow-add 2 (x - 1) (1075 - x)) ∙ sym (mul_assoc q (2 ^ (x - 1)) (2 ^ (1075 - x))))
  where
    all : (x : ℕ) → 1023 ≤ x → x < 1075 → 1074 ≡ x - 1 + (1075 - x)
    all x a b = omega arith

-- All digits stand before the point.
shifted : (q x : ℕ) → 1075 ≤ x → q * 2 ^ (x - 1075) ≡ q * 2 ^ (x - 1) / 2 ^ 1074
shifted q x a =
    sym (shl-shr (q * 2 ^ (x - 1075)) 1074)
    ∙ ap (λ (n : ℕ). n / 2 ^ 1074) (mul_assoc q (2 ^ (x - 1075)) (2 ^ 1074) ∙ ap (λ (n : ℕ). q * n) (sym (pow-add 2 (x - 1075) 1074) ∙ ap (λ (n : ℕ). 2 ^ n) (all x a)))
  where
    all : (x : ℕ) → 1075 ≤ x → x - 1075 + 1074 ≡ x - 1
    all x a = omega arith

-- No digit is lost on the left.
exact : (q x : ℕ) → q < 2 ^ 53 → x < 1086 → q * 2 ^ (x - 1075) % 18446744073709551616 ≡ q * 2 ^ (x - 1075)
exact q x d b = shl_exact 53 (x - 1075) 64 d (room x b)
  where
    room : (x : ℕ) → x < 1086 → 53 + (x - 1075) ≤ 64
    room x b = omega arith

pub whole_left : (t x : ℕ) → t < 4503599627370496 → 1075 ≤ x → x < 1086
    → (4503599627370496 + t) * 2 ^ (x - 1075) % 18446744073709551616 ≡ whole x t
whole_left t x d a b = exact (4503599627370496 + t) x (digits_lt t d) b ∙ shifted (4503599627370496 + t) x a

pub whole_lt : (t x : ℕ) → t < 4503599627370496 → x < 1086 → (4503599627370496 + t) * 2 ^ (x - 1075) % 18446744073709551616 < 9223372036854775808
whole_lt t x d b =
    subst (λ (n : ℕ). n < 9223372036854775808) (sym (exact (4503599627370496 + t) x (digits_lt t d) b))
    (lt_of_lt_of_le (shl_lt 53 (x - 1075) (digits_lt t d)) (pow_mono {j = 63} (room x b)))
  where
    room : (x : ℕ) → x < 1086 → 53 + (x - 1075) ≤ 63
    room x b = omega arith

-- ---- `with_sign`

abbrev with_sign : Bool → ℕ → ℤ
with_sign s n = cond s (neg_ℤ (pos n)) (pos n)

-- The code's -n is 0 - n.
minus : (n : ℕ) → n < 9223372036854775808 → pos 0 -ℤ to_z w64 n ≡ neg_ℤ (pos n)
minus n l = ap (λ (z : ℤ). pos 0 -ℤ z) (to_z_pos w64 l) ∙ +ℤ_idl (neg_ℤ (pos n))

pub minus_fits : (n : ℕ) → n < 9223372036854775808 → SFits w64 (pos 0 -ℤ to_z w64 n)
minus_fits n l = subst (SFits w64) (sym (minus n l)) (fits n l)
  where
    fits : (n : ℕ) → n < 9223372036854775808 → SFits w64 (neg_ℤ (pos n))
    fits zero l = record { sfits = l }
    fits (suc n) l = record { sfits = omega arith }

pub sign_plus : (b n : ℕ) → n < 9223372036854775808 → b < 9223372036854775808 → to_z w64 n ≡ with_sign (negative b) n
sign_plus b n l h = to_z_pos w64 l ∙ ap (λ (s : Bool). with_sign s n) (sym (lt-leb 9223372036854775808 b h))

pub sign_minus : (b n : ℕ) → n < 9223372036854775808 → 9223372036854775808 ≤ b
    → to_z w64 (of_z w64 (pos 0 -ℤ to_z w64 n)) ≡ with_sign (negative b) n
sign_minus b n l h = to_z-of_z (minus_fits n l) ∙ minus n l ∙ ap (λ (s : Bool). with_sign s n) (sym (le-leb 9223372036854775808 b h))

-- ---- `to_int`

-- The smallest Int, or the largest.
abbrev end : Bool → ℤ
end s = cond s (negsuc 9223372036854775807) (pos 9223372036854775807)

-- A whole part n with a sign, brought to the nearer end where it is beyond the range.
abbrev ended : Bool → ℕ → ℤ
ended s n = cond s (neg_ℤ (pos (min n (2 ^ 63)))) (pos (min n (2 ^ 63 - 1)))

toSigned_value : (v : Float) (s : Bool) (a c : ℕ) → 0 < c → HasValue v s a c → to_signed 63 v ≡ ended s (a / c)
unfolding to_signed
toSigned_value nan s a c p h = absurd h
toSigned_value (inf t) s a c p h = absurd h
toSigned_value (fin t m e) s a c p h =
    ap (λ (b : Bool). ended b (m * up e / down e)) h.0 ∙ ap (ended s) (div_same (m * up e) (down e) a c (down_pos e) p h.1)

of_fields_lem : (s : Bool) (x t : ℕ) → 1 ≤ x → x < 2047 → to_signed 63 (of_fields binary64 s x t) ≡ ended s (whole x t)
of_fields_lem s zero t a b = absurd (omega arith)
of_fields_lem s (suc x) t a b =
    let e : x ≡ suc x - 1 = omega arith in
    ap (to_signed 63) (fields_number s x t b)
    ∙ toSigned_value (odd 53 s (4503599627370496 + t) x 1074) s ((4503599627370496 + t) * 2 ^ x) (2 ^ 1074) (pow_pos 1074) (odd_sign 53 s (4503599627370496 + t) x 1074)
    ∙ ap (λ (n : ℕ). ended s ((4503599627370496 + t) * 2 ^ n / 2 ^ 1074)) e

ended_zero : (s : Bool) → ended s 0 ≡ pos 0
ended_zero true = refl
ended_zero false = refl

ended_in : (s : Bool) (n : ℕ) → n < 9223372036854775808 → ended s n ≡ with_sign s n
ended_in true n l = ap (λ (k : ℕ). neg_ℤ (pos k)) (min-eq_left (le_of_lt l))
ended_in false n l = ap pos (min-eq_left (omega arith))

ended_out : (s : Bool) (n : ℕ) → 9223372036854775808 ≤ n → ended s n ≡ end s
ended_out true n l = ap (λ (k : ℕ). neg_ℤ (pos k)) (min-eq_right l)
ended_out false n l = ap pos (min-eq_right (le_trans (lit≤ tt) l))

-- below 1
below_one : (s : Bool) (x t : ℕ) → t < 4503599627370496 → x < 1023 → pos 0 ≡ to_signed 63 (of_fields binary64 s x t)
below_one s zero t d l =
    sym (ap (to_signed 63) (fields_zero s t) ∙ toSigned_value (odd 53 s t 0 1074) s (t * 2 ^ 0) (2 ^ 1074) (pow_pos 1074) (odd_sign 53 s t 0 1074)
    ∙ ap (ended s) (div-eq_of_lt (lt_of_lt_of_le (shl_lt 52 0 d) (lit≤ tt))) ∙ ended_zero s)
below_one s (suc x) t d l =
    sym (of_fields_lem s (suc x) t (omega arith) (omega arith)
    ∙ ap (ended s) (div-eq_of_lt (lt_of_lt_of_le (shl_lt 53 (suc x - 1) (digits_lt t d)) (pow_mono (room x l)))) ∙ ended_zero s)
  where
    room : (x : ℕ) → suc x < 1023 → 53 + (suc x - 1) ≤ 1074
    room x l = omega arith

infinity : (s : Bool) → to_signed 63 (of_fields binary64 s 2047 0) ≡ end s
unfolding to_signed of_fields
infinity s = refl

-- from 2^63 on
beyond : (s : Bool) (x t : ℕ) → 1086 ≤ x → x ≤ 2047 → (x ≡ 2047 → t ≡ 0) → to_signed 63 (of_fields binary64 s x t) ≡ end s
beyond s x t a b n = go (eq-or-lt_of_le b)
  where
    room : (x : ℕ) → 1086 ≤ x → 1085 ≤ x - 1
    room x a = omega arith

    go : (x ≡ 2047) ⊎ (x < 2047) → to_signed 63 (of_fields binary64 s x t) ≡ end s
    go (inl e) = ap (λ (z : ℕ). to_signed 63 (of_fields binary64 s z t)) e ∙ ap (λ (z : ℕ). to_signed 63 (of_fields binary64 s 2047 z)) (n e) ∙ infinity s
    go (inr l) =
        let q : 2 ^ 52 ≤ 4503599627370496 + t = omega arith in
        of_fields_lem s x t (omega arith) l
        ∙ ended_out s (whole x t) ((le-div_iff_mul-le {x = 9223372036854775808} (pow_pos 1074)).1 (mul-le-mul q (pow_mono (room x a))))

pub to_int_small : (b : ℕ) → exponent b < 1023 → pos 0 ≡ to_int b
unfolding to_int of_bits
to_int_small b l = below_one (negative b) (exponent b) (digits b) (omega arith) l

pub to_int_whole : (b n : ℕ) → 1023 ≤ exponent b → exponent b < 1086
    → n ≡ whole (exponent b) (digits b) → n < 9223372036854775808
    → with_sign (negative b) n ≡ to_int b
unfolding to_int of_bits
to_int_whole b n a c e l =
    sym (of_fields_lem (negative b) (exponent b) (digits b) (omega arith) (omega arith)
    ∙ ap (ended (negative b)) (sym e) ∙ ended_in (negative b) n l)

pub to_int_nan : (b : ℕ) → 9218868437227405312 < b % 9223372036854775808 → pos 0 ≡ to_int b
unfolding to_int to_signed
to_int_nan b h = sym (ap (to_signed 63) (nan_above binary64 b h))

pub to_int_end : (b : ℕ) (s : Bool) → negative b ≡ s → 1086 ≤ exponent b → b % 9223372036854775808 ≤ 9218868437227405312
    → end s ≡ to_int b
unfolding to_int of_bits
to_int_end b s e a c =
    ap end (sym e)
    ∙ sym (beyond (negative b) (exponent b) (digits b) a (omega arith) (λ z. omega arith))
