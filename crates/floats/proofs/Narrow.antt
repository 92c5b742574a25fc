-- One law for each way out of the functions of narrowing.
use Rattle.std.proofs.Common.{◌≡◌, ℕ, zero, suc, ◌+◌, ◌-◌, ◌*◌, ◌/◌, ◌%◌, ◌^◌, ◌<◌, ◌≤◌, Bool, true, false, cond, not, T, ◌⊎◌, sym, refl, ap, ◌∙◌, subst, inl, inr, lt_of_lt_of_le, zero-lt-suc, mul-le-mul, eq-or-lt_of_le, arith, lit<, lit≤, leb→le, pow_pos, pow_mono}
use native.Mathlib.Nat.{mod-le}
use lib.Dec.{nleb→lt}
use lib.Ieee.{Float, binary32, binary64, of_bits, of_fields, to_bits, units}
use lib.Ieee.Nearest.{closest}
use Rattle.floats.specs.Narrowing.{NarrowsTo}
use Rattle.floats.proofs.Bits.{unit_is, negative, exponent, digits, nan_above, fields_zero, fields_number, digits_lt}
use Rattle.floats.proofs.Rounding.{nearest_below, nearest_tie, nearest_above, closest_most, closest_least, closest_none, units_over, units_normal, narrow_low, narrow_high}
use Rattle.model.specs.Value.{nearest32, narrow}

-- ---- `nearest`

wider : (h : ℕ) → h < 63 → h < 64
wider h l = omega arith

pub unit_pos : (h : ℕ) → h < 63 → 0 < 1 * 2 ^ h % 18446744073709551616
unit_pos h l = subst (λ (x : ℕ). 0 < x) (sym (unit_is h (wider h l))) (pow_pos h)

pub rest_fits : (q u : ℕ) → q < 9007199254740992 → q % u * 2 < 18446744073709551616
rest_fits q u l = let m : q % u ≤ q = mod-le q u in omega arith

pub below_half : (q h : ℕ) → h < 63 → q % (1 * 2 ^ h % 18446744073709551616) * 2 < 1 * 2 ^ h % 18446744073709551616 → q / 2 ^ h ≡ closest q (2 ^ h)
below_half q h l t = sym (nearest_below (q / 2 ^ h) (q % 2 ^ h * 2) (2 ^ h) (subst (λ (u : ℕ). q % u * 2 < u) (unit_is h (wider h l)) t))

pub at_half : (q h : ℕ) → h < 63 → q % (1 * 2 ^ h % 18446744073709551616) * 2 ≡ 1 * 2 ^ h % 18446744073709551616 → q / 2 ^ h + q / 2 ^ h % 2 ≡ closest q (2 ^ h)
at_half q h l t = sym (nearest_tie (q / 2 ^ h) (q % 2 ^ h * 2) (2 ^ h) (subst (λ (u : ℕ). q % u * 2 ≡ u) (unit_is h (wider h l)) t))

pub above_half : (q h : ℕ) → h < 63 → 1 * 2 ^ h % 18446744073709551616 < q % (1 * 2 ^ h % 18446744073709551616) * 2 → q / 2 ^ h + 1 ≡ closest q (2 ^ h)
above_half q h l t = sym (nearest_above (q / 2 ^ h) (q % 2 ^ h * 2) (2 ^ h) (subst (λ (u : ℕ). u < q % u * 2) (unit_is h (wider h l)) t))

-- ---- `magnitude`

digits_ge : (t : ℕ) → 2 ^ 52 ≤ 4503599627370496 + t
digits_ge t = omega arith

-- A result before the exponent is added to it takes 24 digits, or is 2^24.
pub result_le : (t r h : ℕ) → t < 4503599627370496 → 29 ≤ h → r ≡ closest (4503599627370496 + t) (2 ^ h) → r ≤ 16777216
result_le t r h d g e = subst (λ (z : ℕ). z ≤ 16777216) (sym e) (closest_most (4503599627370496 + t) h (digits_lt t d) g)

pub subnormal : (x t r : ℕ) → t < 4503599627370496 → 0 < x → x < 897 → r ≡ closest (4503599627370496 + t) (2 ^ (926 - x)) → NarrowsTo x t r
subnormal zero t r d p l e s = absurd (omega arith)
subnormal (suc x) t r d p l e s =
    ap (λ (z : ℕ). cond s 2147483648 0 + z) e
    ∙ narrow_low s (4503599627370496 + t) x (926 - suc x) (digits_lt t d) (omega arith) (omega arith)
    ∙ sym (ap (λ (v : Float). to_bits binary32 (nearest32 v)) (fields_number s x t (omega arith)))

-- Below 2^-150, which is half of the smallest f32, all is rounded to 0.
pub too_small : (x t : ℕ) → t < 4503599627370496 → x < 873 → NarrowsTo x t 0
too_small zero t d l s =
    ap (λ (z : ℕ). cond s 2147483648 0 + z) (sym (closest_none t 925 (lt_of_lt_of_le (twice t d) (lit≤ tt))))
    ∙ narrow_low s t 0 925 (wide t d) (lit< tt) refl
    ∙ sym (ap (λ (v : Float). to_bits binary32 (nearest32 v)) (fields_zero s t))
  where
    twice : (t : ℕ) → t < 4503599627370496 → t * 2 < 2 ^ 53
    twice t d = omega arith

    wide : (t : ℕ) → t < 4503599627370496 → t < 2 ^ 53
    wide t d = omega arith
too_small (suc x) t d l s =
    subnormal (suc x) t 0 d (zero-lt-suc x) (omega arith)
    (sym (closest_none (4503599627370496 + t) (926 - suc x) (lt_of_lt_of_le (twice t d) (pow_mono (far x l))))) s
  where
    twice : (t : ℕ) → t < 4503599627370496 → (4503599627370496 + t) * 2 < 2 ^ 54
    twice t d = omega arith

    far : (x : ℕ) → suc x < 873 → 54 ≤ 926 - suc x
    far x l = omega arith

-- From the least normal f32 on: a quotient by 2^29, and the exponent beside it.
normal_units : (s : Bool) (x t : ℕ) → t < 4503599627370496 → 897 ≤ x → x < 2047
    → nearest32 (of_fields binary64 s x t) ≡ units binary32 s (closest (4503599627370496 + t) (2 ^ 29)) (x - 897)
normal_units s zero t d a b = absurd (omega arith)
normal_units s (suc x) t d a b =
    ap nearest32 (fields_number s x t b) ∙ narrow_high s (4503599627370496 + t) x (suc x - 897) (digits_ge t) (digits_lt t d) (omega arith)

pub normal : (x t r : ℕ) → t < 4503599627370496 → 897 ≤ x → x < 1151 → r ≡ closest (4503599627370496 + t) (2 ^ 29) → NarrowsTo x t ((x - 897) * 8388608 + r)
normal x t r d a b e s =
    let q = 4503599627370496 + t in
    ap (λ (z : ℕ). cond s 2147483648 0 + ((x - 897) * 8388608 + z)) e
    ∙ sym (ap (to_bits binary32) (normal_units s x t d a (omega arith)) ∙ units_normal s (closest q (2 ^ 29)) (x - 897) (closest_least q (digits_ge t)) (closest_most q 29 (digits_lt t d) (lit≤ tt)) (omega arith))

infinity : (s : Bool) → to_bits binary32 (nearest32 (of_fields binary64 s 2047 0)) ≡ cond s 2147483648 0 + 2139095040
unfolding of_fields nearest32 to_bits
infinity s = refl

-- From 2^128 on, infinities among them.
pub too_large : (x t : ℕ) → t < 4503599627370496 → 1151 ≤ x → x ≤ 2047 → (x ≡ 2047 → t ≡ 0) → NarrowsTo x t 2139095040
too_large x t d a b n s = go (eq-or-lt_of_le b)
  where
    go : (x ≡ 2047) ⊎ (x < 2047) → cond s 2147483648 0 + 2139095040 ≡ to_bits binary32 (nearest32 (of_fields binary64 s x t))
    go (inl e) = sym (ap (λ (z : ℕ). to_bits binary32 (nearest32 (of_fields binary64 s z t))) e ∙ ap (λ (z : ℕ). to_bits binary32 (nearest32 (of_fields binary64 s 2047 z))) (n e) ∙ infinity s)
    go (inr l) =
        let q = closest (4503599627370496 + t) (2 ^ 29) in
        let k254 : 254 ≤ x - 897 = omega arith in
        let big : 2 ^ 277 ≤ q * 2 ^ (x - 897) = mul-le-mul (closest_least (4503599627370496 + t) (digits_ge t)) (pow_mono k254) in
        sym (ap (to_bits binary32) (normal_units s x t d (omega arith) l) ∙ units_over s q (x - 897) big)

-- ---- `sign`

pub sign_is : (b : ℕ) → b < 18446744073709551616 → b / 9223372036854775808 * 2147483648 ≡ cond (negative b) 2147483648 0
sign_is b h = go (negative b) (leb→le 9223372036854775808 b) (nleb→lt 9223372036854775808 b)
  where
    go : (t : Bool) → (T t → 9223372036854775808 ≤ b) → (T (not t) → b < 9223372036854775808) → b / 9223372036854775808 * 2147483648 ≡ cond t 2147483648 0
    go true l g = omega (arith, l tt)
    go false l g = omega (arith, g tt)

pub sign_le : (t : Bool) → cond t 2147483648 0 ≤ 2147483648
sign_le true = lit≤ tt
sign_le false = lit≤ tt

-- ---- `narrow`

pub narrow_nan : (b : ℕ) → 9218868437227405312 < b % 9223372036854775808 → 2143289344 ≡ narrow b
unfolding narrow nearest32 to_bits
narrow_nan b h = sym (ap (λ (v : Float). to_bits binary32 (nearest32 v)) (nan_above binary64 b h))

-- all that is not a NaN
pub narrow_rest : (b s r : ℕ) → s ≡ cond (negative b) 2147483648 0
    → NarrowsTo (exponent b) (digits b) r → s + r ≡ narrow b
unfolding narrow of_bits
narrow_rest b s r e m = ap (λ (z : ℕ). z + r) e ∙ m (negative b)
