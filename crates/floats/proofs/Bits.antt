-- Bit patterns: the word of one bit, which are a NaN's (of both formats), what the fields of an f64 stand for, and which f64s are finite.
use Rattle.std.proofs.Common.{◌≡◌, ℕ, zero, suc, ◌+◌, ◌*◌, ◌/◌, ◌%◌, ◌^◌, ◌<◌, ◌≤◌, Bool, true, false, cond, not, T, eqb, ltb, leb, sym, refl, ap, ◌∙◌, subst, mod-eq_of_lt, one-mul, arith, ltb-false, ltb-true, le-ltb, lt-ltb, ne_eqb}
use lib.Pow.{pow-lt}
use lib.Ieee.{Float, Format, nan, inf, fin, binary64, hid, ones, top, odd, is_nan, nan_bits, of_bits, of_fields}
use lib.Ieee.Bits.{nan_bits_is, nan_bits_above}
use Rattle.model.specs.Questions.{finite}

-- ---- NaNs

-- `ones f * hid f` are the bits of infinity, `top f` is the weight of the sign.
pub no_nan : (f : Format) (b : ℕ) → b % top f ≤ ones f * hid f → T (not (nan_bits f b))
no_nan f b h = rw (nan_bits_above f b, le-ltb (ones f * hid f) (b % top f) h) tt

pub is_nan_only : (x : Float) → is_nan x ≡ true → x ≡ nan
unfolding is_nan
is_nan_only nan e = refl
is_nan_only (inf s) e = absurd (subst T (sym e) tt)
is_nan_only (fin s m k) e = absurd (subst T (sym e) tt)

pub nan_above : (f : Format) (b : ℕ) → ones f * hid f < b % top f → of_bits f b ≡ nan
nan_above f b h = is_nan_only (of_bits f b) (sym (nan_bits_is f b) ∙ nan_bits_above f b ∙ lt-ltb (ones f * hid f) (b % top f) h)

-- ---- one bit

-- The code's `1 << h` is 2^h.
pub unit_is : (h : ℕ) → h < 64 → 1 * 2 ^ h % 18446744073709551616 ≡ 2 ^ h
unit_is h l = ap (λ (x : ℕ). x % 18446744073709551616) (one-mul (2 ^ h)) ∙ mod-eq_of_lt (pow-lt l)

-- ---- the fields of an f64

-- whether the sign is set
abbrev pub negative : ℕ → Bool
negative b = leb 9223372036854775808 b

-- the field of the exponent: 2047 for infinities and NaNs
abbrev pub exponent : ℕ → ℕ
exponent b = b % 9223372036854775808 / 4503599627370496

-- the field of the digits
abbrev pub digits : ℕ → ℕ
digits b = b % 4503599627370496

pub fields_zero : (s : Bool) (t : ℕ) → of_fields binary64 s 0 t ≡ odd 53 s t 0 1074
unfolding of_fields
fields_zero s t = refl

pub fields_number : (s : Bool) (x t : ℕ) → suc x < 2047 → of_fields binary64 s (suc x) t ≡ odd 53 s (4503599627370496 + t) x 1074
unfolding of_fields
fields_number s x t l = rw (ne_eqb (suc x) 2047 (λ e. omega arith))

-- the digits of a normal f64 with the leading one
pub digits_lt : (t : ℕ) → t < 4503599627370496 → 4503599627370496 + t < 2 ^ 53
digits_lt t d = omega arith

-- ---- finite f64s

-- neither an infinity nor a NaN
abbrev number : Float → Bool
number x = elim x [ nan ↦ false | inf s ↦ false | fin s m e ↦ true ]

odd_number : (d : ℕ) (s : Bool) (q k l : ℕ) → number (odd d s q k l) ≡ true
unfolding odd
odd_number d s zero k l = refl
odd_number d s (suc q) k l = refl

number_below : (s : Bool) (x t : ℕ) → x < 2047 → number (of_fields binary64 s x t) ≡ true
number_below s zero t h = ap number (fields_zero s t) ∙ odd_number 53 s t 0 1074
number_below s (suc x) t h = ap number (fields_number s x t h) ∙ odd_number 53 s (4503599627370496 + t) x 1074

no_number : (s : Bool) (t : ℕ) → number (of_fields binary64 s 2047 t) ≡ false
unfolding of_fields
no_number s t = go (eqb t 0)
  where
    go : (b : Bool) → number (cond b (inf s) nan) ≡ false
    go true = refl
    go false = refl

pub finite_is : (b : ℕ) → ltb (b % 9223372036854775808) 9218868437227405312 ≡ finite b
unfolding finite of_bits
finite_is b = go (ltb (b % 9223372036854775808) 9218868437227405312) refl
  where
    go : (c : Bool) → ltb (b % 9223372036854775808) 9218868437227405312 ≡ c → c ≡ finite b
    go true h = sym (number_below (negative b) (exponent b) (digits b) (omega (arith, ltb-true)))
    go false h =
        let e : exponent b ≡ 2047 = omega (arith, ltb-false) in
        sym (ap (λ (x : ℕ). number (of_fields binary64 (negative b) x (digits b))) e ∙ no_number (negative b) (digits b))
