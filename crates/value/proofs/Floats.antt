-- Equality of Floats read from their bits: which are zero, and which equal themselves.
use Prim.Native.Nat.{ℕ, zero, suc, ◌+◌, ◌*◌, ◌/◌, ◌%◌, ◌^◌, ◌<◌}
use native.Mathlib.Nat.{mul-pos, zero-mul, zero-lt-suc, lt_irrefl}
use native.Mathlib.Omega.{arith}
use mathlib.Core.Path.{◌≡◌, refl, sym, ap, ◌∙◌, subst}
use mathlib.Core.Bool.{Bool, true, false, not, cond}
use borrow.Author.Tests.{ne_eqb, eq-eqb, eqb-true, eqb-false, leb-true, leb-false}
use lib.Dec.{T, eqb, leb}
use lib.Pow.{pow_pos}
use lib.IntN.{pos}
use lib.Ieee.{Float, nan, inf, fin, binary64, up, down, odd, of_fields, of_bits, is_nan, nan_bits, eq}
use lib.Ieee.Exact.{HasValue, odd_sign}
use lib.Ieee.Fits.{down_pos}
use lib.Ieee.Bits.{nan_bits_is}
use Rattle.model.specs.Value.{eq64}
use Rattle.floats.proofs.Bits.{no_nan, nan_above}

-- 0.0
abbrev nought : Float
nought = fin false 0 (pos 0)

-- where p * c is a product of two numbers above 0, p is not 0
nothing_left : (p n c a d : ℕ) → 0 < a → 0 < d → p * c ≡ a * d → p * 1 ≡ 0 * 1 * n → ⊥
nothing_left p n c a d ha hd h e =
    let z : p ≡ 0 = omega arith in
    lt_irrefl 0 (subst (λ (x : ℕ). 0 < x) (sym h ∙ ap (λ (x : ℕ). x * c) z ∙ zero-mul c) (mul-pos ha hd))

-- a number above 0 is not 0.0
above : (x : Float) (s : Bool) (a c : ℕ) → 0 < a → HasValue x s a c → eq x nought ≡ false
unfolding eq
above nan s a c p h = refl
above (inf t) s a c p h = refl
above (fin t m e) s a c p h = rw (ne_eqb (m * up e * 1) (0 * 1 * down e) (nothing_left (m * up e) (down e) c a (down e) p (down_pos e) h.1)) refl

-- of the numbers q * 2 ^ k / 2 ^ l it is the one with q = 0
odd_zero : (d : ℕ) (s : Bool) (q k l : ℕ) → eq (odd d s q k l) nought ≡ eqb q 0
unfolding eq odd
odd_zero d false zero k l = refl
odd_zero d true zero k l = refl
odd_zero d s (suc q) k l = above (odd d s (suc q) k l) s (suc q * 2 ^ k) (2 ^ l) (mul-pos (zero-lt-suc q) (pow_pos k)) (odd_sign d s (suc q) k l) ∙ sym (ne_eqb (suc q) 0 (λ e. omega arith))

-- neither an infinity nor a NaN is 0.0
no_number : (s b : Bool) → eq (cond b (inf s) nan) nought ≡ false
unfolding eq
no_number s false = refl
no_number s true = refl

-- by a pattern's fields: 0.0 is the one with both 0, whatever its sign
fields_zero : (s : Bool) (x t : ℕ) → (x ≡ 0 → t ≡ 0 → ⊥) → eq (of_fields binary64 s x t) nought ≡ false
unfolding of_fields
fields_zero s zero t h = odd_zero 53 s t 0 1074 ∙ ne_eqb t 0 (h refl)
fields_zero s (suc x) t h = go (eqb (suc x) 2047)
  where
    go : (b : Bool) → eq (cond b (cond (eqb t 0) (inf s) nan) (odd 53 s (4503599627370496 + t) x 1074)) nought ≡ false
    go true = no_number s (eqb t 0)
    go false = odd_zero 53 s (4503599627370496 + t) x 1074 ∙ ne_eqb (4503599627370496 + t) 0 (λ e. omega arith)

-- a Float is zero exactly where its bits beside the sign are 0
pub zero_bits : (b : ℕ) → eqb (b % 9223372036854775808) 0 ≡ eq64 b 0
unfolding eq64 of_bits of_fields odd
zero_bits b = go (eqb (b % 9223372036854775808) 0) refl
  where
    s : Bool
    s = leb 9223372036854775808 b

    x : ℕ
    x = b % 9223372036854775808 / 4503599627370496

    t : ℕ
    t = b % 4503599627370496

    go : (c : Bool) → eqb (b % 9223372036854775808) 0 ≡ c → c ≡ eq (of_fields binary64 s x t) nought
    go true h =
        let ex : x ≡ 0 = omega (arith, eqb-true) in
        let et : t ≡ 0 = omega (arith, eqb-true) in
        rw (ex, et) (sym (odd_zero 53 s 0 0 1074))
    go false h = sym (fields_zero s x t (λ ex et. eqb-false (b % 9223372036854775808) 0 h (omega arith)))

-- a float that is no NaN equals itself
equals_itself : (x : Float) → T (not (is_nan x)) → eq x x ≡ true
unfolding eq is_nan
equals_itself nan h = absurd h
equals_itself (inf false) h = refl
equals_itself (inf true) h = refl
equals_itself (fin false m e) h = rw (eq-eqb (m * up e * down e) (m * up e * down e) refl) refl
equals_itself (fin true m e) h = rw (eq-eqb (m * up e * down e) (m * up e * down e) refl) refl

-- bits are those of a Float that equals itself exactly where their magnitude is not above an infinity's
pub itself_bits : (b : ℕ) → leb (b % 9223372036854775808) 9218868437227405312 ≡ eq64 b b
unfolding eq64 eq
itself_bits b = go (leb (b % 9223372036854775808) 9218868437227405312) refl
  where
    go : (c : Bool) → leb (b % 9223372036854775808) 9218868437227405312 ≡ c → c ≡ eq (of_bits binary64 b) (of_bits binary64 b)
    go true h =
        let n : T (not (nan_bits binary64 b)) = no_nan binary64 b (leb-true _ _ h) in
        sym (equals_itself (of_bits binary64 b) (subst (λ (x : Bool). T (not x)) (nan_bits_is binary64 b) n))
    go false h = rw (nan_above binary64 b (leb-false _ _ h)) refl
