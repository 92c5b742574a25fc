-- Seconds that are added up stay finite: a number up to 2^1000 and the length of a tick, at most 3,600, give a sum that rounds to a number up to 2^1000.
use mathlib.Core.Path.{◌≡◌, refl, sym, ap, subst, ◌∙◌}
use mathlib.Core.Bool.{Bool, true, false, cond, ◌&&◌, ◌||◌, true≢false}
use Prim.Native.Nat.{ℕ, zero, suc, ◌+◌, ◌-◌, ◌*◌, ◌^◌, ◌≤◌, ◌<◌, zero-le}
use native.Mathlib.Nat.{le_trans, le_of_eq, mul_comm, mul_assoc, mul_right_comm, mul-le-mul_right, le_of_mul-le-mul_right, mul-pos, add-mul, zero-mul}
use native.Mathlib.Omega.{arith}
use lib.Dec.{T, ltb, eqb}
use lib.IntN.{ℤ, pos}
use lib.Ieee.{Float as Number, Format, nan, inf, fin, up, down, low, prec, emax, binary64, of_bits, to_bits, add, sum, round, units, odd, lt, le, eq, of_int, fits}
use lib.Ieee.Fits.{round_is, add-fits, of_int-fits, up_pos, down_pos}
use lib.Ieee.Bits.{of_bits-to_bits, to_bits-lt}
use lib.Ieee.Order.{round_mono}
use borrow.Author.Tests.{ltb-true, eqb-true, le-ltb}
use Rattle.model.specs.Value.{plus64, le64, lt64, float_of_int, value_opened}
use Rattle.model.specs.Questions.{finite, good_length}
use Rattle.model.proofs.Lists.{both_true}

-- seconds so far stay at or below 2 to this
abbrev exponent : ℕ
exponent = 1000

abbrev big : ℕ
big = 2 ^ exponent

abbrev top : Number
top = fin false 1 (pos exponent)

-- seconds so far: not negative, and at most that
abbrev TimeNumber : Number → Type 0
TimeNumber nan = ⊥
TimeNumber (inf s) = ⊥
TimeNumber (fin true m e) = ⊥
TimeNumber (fin false m e) = m * up e ≤ big * down e

-- the longest tick, in seconds
abbrev most_length : ℕ
most_length = 3600

-- 0 to that, -0 too
abbrev LengthNumber : Number → Type 0
LengthNumber nan = ⊥
LengthNumber (inf s) = ⊥
LengthNumber (fin true m e) = m ≡ 0
LengthNumber (fin false m e) = m * up e ≤ most_length * down e

abbrev finite_number : Number → Bool
finite_number nan = false
finite_number (inf s) = false
finite_number (fin s m e) = true

-- ---- rounding

-- not negative, or no number
data Positive : Number → Type 0 where
  infinite : Positive (inf false)
  of_digits : {m : ℕ} {e : ℤ} → Positive (fin false m e)

odd_positive : (d : ℕ) (q k l : ℕ) → Positive (odd d false q k l)
unfolding odd
odd_positive d zero k l = of_digits
odd_positive d (suc q) k l = of_digits

units_positive : (f : Format) (q k : ℕ) → Positive (units f false q k)
unfolding units
units_positive f q k = go (ltb (q * 2 ^ k) (2 ^ (low f + suc (emax f))))
  where
    go : (b : Bool) → Positive (cond b (odd (suc (prec f)) false q k (low f)) (inf false))
    go true = odd_positive (suc (prec f)) q k (low f)
    go false = infinite

round_positive : (f : Format) (a b : ℕ) → Positive (round f false a b)
round_positive f a b = subst Positive (sym (round_is f false a b)) (units_positive f _ _)

-- that and the longest tick round to it
top_rounds : round binary64 false (big + most_length) 1 ≡ top
unfolding value_opened
top_rounds = refl

either_le : (a b : ℕ) (c : Bool) → T (ltb a b || (eqb a b && c)) → a ≤ b
either_le a b c h = go (ltb a b) (eqb a b) refl refl h
  where
    go : (x y : Bool) → ltb a b ≡ x → eqb a b ≡ y → T (x || (y && c)) → a ≤ b
    go true y p q h = omega (arith, ltb-true a b p)
    go false true p q h = omega (arith, eqb-true a b q)
    go false false p q h = absurd h

below_top : (x : Number) → Positive x → T (le x top) → TimeNumber x
unfolding le lt eq
below_top nan x3 h = elim x3 [ ]
below_top (inf true) x7 h = elim x7 [ ]
below_top (fin true m e) x8 h = elim x8 [ ]
below_top (inf false) infinite h = h
below_top (fin false m e) of_digits h =
    let a = either_le (m * up e * 1) (1 * 2 ^ exponent * down e) _ h in
    tidy (m * up e) (down e) big a
  where
    tidy : (x y k : ℕ) → x * 1 ≤ 1 * k * y → x ≤ k * y
    tidy x y k a = omega arith

-- a fraction up to that rounds to no more
round_time : (n d : ℕ) → 0 < d → n ≤ (big + most_length) * d → TimeNumber (round binary64 false n d)
round_time n d l h =
    below_top (round binary64 false n d) (round_positive binary64 n d)
    (subst (λ (z : Number). T (le (round binary64 false n d) z)) top_rounds (round_mono binary64 n d (big + most_length) 1 l (omega arith) (tidy n ((big + most_length) * d) h)))
  where
    tidy : (x y : ℕ) → x ≤ y → x * 1 ≤ y
    tidy x y h = omega arith

-- ---- a sum

-- a / p and b / q over a common divisor
sum_most : (k m a b p q : ℕ) → a ≤ k * p → b ≤ m * q → a * q + b * p ≤ (k + m) * (p * q)
sum_most k m a b p q h g =
    let x : a * q ≤ k * p * q = mul-le-mul_right q h in
    let y : b * p ≤ m * q * p = mul-le-mul_right p g in
    let u : k * p * q ≡ k * (p * q) = mul_assoc k p q in
    let v : m * q * p ≡ m * (p * q) = mul_assoc m q p ∙ ap (λ (z : ℕ). m * z) (mul_comm q p) in
    let w : (k + m) * (p * q) ≡ k * (p * q) + m * (p * q) = add-mul k m (p * q) in
    omega (arith, x, y, u, v, w)

-- of a number and a zero of the other sign
less_none : (y : ℕ → ℕ → Number) (a b c : ℕ) → b ≡ 0 → a ≤ (big + most_length) * c → 0 < c → TimeNumber (cond (ltb a b) (y b a) (round binary64 false (a - b) c))
less_none y a b c e h l =
    let s : ltb a b ≡ false = not_below a b e in
    rw s (round_time (a - b) c l (below a b ((big + most_length) * c) h))
  where
    not_below : (a b : ℕ) → b ≡ 0 → ltb a b ≡ false
    not_below a b e = le-ltb a b (omega (arith, e))

    below : (a b k : ℕ) → a ≤ k → a - b ≤ k
    below a b k h = omega arith

zero_times : (n u d : ℕ) → n ≡ 0 → n * u * d ≡ 0
zero_times n u d e = rw e (ap (λ (z : ℕ). z * d) (zero-mul u) ∙ zero-mul d)

sum_time : (x y : Number) → TimeNumber x → LengthNumber y → TimeNumber (add binary64 x y)
unfolding add sum
sum_time nan y h g = elim h [ ]
sum_time (inf _) y h g = elim h [ ]
sum_time (fin false m e) nan h g = elim g [ ]
sum_time (fin false m e) (inf _) h g = elim g [ ]
sum_time (fin true m e) y h g = elim h [ ]
sum_time (fin false m e) (fin false n d) h g =
    round_time (m * up e * down d + n * up d * down e) (down e * down d) (mul-pos (down_pos e) (down_pos d)) (sum_most big most_length (m * up e) (n * up d) (down e) (down d) h g)
sum_time (fin false m e) (fin true n d) h g =
    let z = sum_most big most_length (m * up e) 0 (down e) (down d) h (omega arith) in
    less_none (λ b a. round binary64 true (b - a) (down e * down d)) (m * up e * down d) (n * up d * down e) (down e * down d) (zero_times n (up d) (down e) g)
    (first (m * up e * down d) (0 * down e) ((big + most_length) * (down e * down d)) z) (mul-pos (down_pos e) (down_pos d))
  where
    first : (a b k : ℕ) → a + b ≤ k → a ≤ k
    first a b k h = omega arith

-- ---- a limit that is reached

cancel : (k a b p q : ℕ) → 0 < p → b ≤ k * p → a * p ≤ b * q → a ≤ k * q
cancel k a b p q l h g =
    let x : b * q ≤ k * p * q = mul-le-mul_right q h in
    le_of_mul-le-mul_right (le_trans g (le_trans x (le_of_eq (mul_right_comm k p q)))) l

zero_is : of_bits binary64 0 ≡ fin false 0 (pos 0)
unfolding value_opened
zero_is = refl

limit_time : (x t : Number) → lt (fin false 0 (pos 0)) x ≡ true → le x t ≡ true → TimeNumber t → TimeNumber x
unfolding le lt eq
limit_time (inf false) nan p q h = elim h [ ]
limit_time (inf false) (inf _) p q h = elim h [ ]
limit_time (inf false) (fin true m e) p q h = elim h [ ]
limit_time (fin false n d) nan p q h = elim h [ ]
limit_time (fin false n d) (inf _) p q h = elim h [ ]
limit_time (fin false n d) (fin true m e) p q h = elim h [ ]
limit_time nan t p q h = absurd (true≢false (sym p))
limit_time (inf true) t p q h = absurd (true≢false (sym p))
limit_time (inf false) (fin false m e) p q h = absurd (true≢false (sym q))
limit_time (fin true n d) t p q h = absurd (true≢false (sym p))
limit_time (fin false n d) (fin false m e) p q h =
    cancel big (n * up d) (m * up e) (down e) (down d) (down_pos e) h (either_le (n * up d * down e) (m * up e * down d) _ (subst T (sym q) tt))

-- ---- by their bits

-- seconds so far, as f64 bits
pub record Time (b : ℕ) : Type 0 where
  pub number : TimeNumber (of_bits binary64 b)
  pub word : b < 2 ^ 64

-- the length of a tick
pub record Length (b : ℕ) : Type 0 where
  pub number : LengthNumber (of_bits binary64 b)
  pub word : b < 2 ^ 64

time_number_finite : (x : Number) → TimeNumber x → finite_number x ≡ true
time_number_finite nan h = elim h [ ]
time_number_finite (inf _) h = elim h [ ]
time_number_finite (fin true m e) h = elim h [ ]
time_number_finite (fin false m e) h = refl

length_number_finite : (x : Number) → LengthNumber x → finite_number x ≡ true
length_number_finite nan h = elim h [ ]
length_number_finite (inf _) h = elim h [ ]
length_number_finite (fin false m e) h = refl
length_number_finite (fin true m e) h = refl

pub time_finite : (b : ℕ) → Time b → finite b ≡ true
unfolding finite
time_finite b t = time_number_finite (of_bits binary64 b) t.number

pub length_finite : (b : ℕ) → Length b → finite b ≡ true
unfolding finite
length_finite b t = length_number_finite (of_bits binary64 b) t.number

pub time_zero : Time 0
time_zero = record { number = subst TimeNumber (sym zero_is) zero-le; word = omega arith }

fits_word : (x : Number) → T (fits binary64 x) → to_bits binary64 x < 2 ^ 64
fits_word x f = omega (arith, to_bits-lt binary64 x f)

pub plus_time : (a d : ℕ) → Time a → Length d → Time (plus64 a d)
unfolding plus64
plus_time a d s t =
    let x = add binary64 (of_bits binary64 a) (of_bits binary64 d) in
    let f = add-fits binary64 (of_bits binary64 a) (of_bits binary64 d) in
    record { number = subst TimeNumber (sym (of_bits-to_bits binary64 x f)) (sum_time (of_bits binary64 a) (of_bits binary64 d) s.number t.number); word = fits_word x f }

pub limit_reached : (a t : ℕ) → a < 2 ^ 64 → (lt64 0 a && le64 a t) ≡ true → Time t → Time a
unfolding lt64 le64
limit_reached a t w h s =
    let p = both_true (lt (of_bits binary64 0) (of_bits binary64 a)) _ h in
    record { number = limit_time (of_bits binary64 a) (of_bits binary64 t) (ap (λ (z : Number). lt z (of_bits binary64 a)) (sym zero_is) ∙ p.0) p.1 s.number; word = w }

pub of_int_word : (z : ℤ) → float_of_int z < 2 ^ 64
unfolding float_of_int
of_int_word z = fits_word (of_int binary64 z) (of_int-fits binary64 z)

-- ---- what question 9 says of a length

hours_is : of_bits binary64 0x40AC200000000000 ≡ fin false 225 (pos 4)
unfolding value_opened
hours_is = refl

length_number : (x : Number) → finite_number x ≡ true → le (fin false 0 (pos 0)) x ≡ true → le x (fin false 225 (pos 4)) ≡ true → LengthNumber x
unfolding le lt eq
length_number nan f p q = absurd (true≢false (sym f))
length_number (inf s) f p q = absurd (true≢false (sym f))
length_number (fin true m e) f p q = none m (up e) (up_pos e) (sym (zero-mul (down e)) ∙ either_eq (0 * up (pos 0) * down e) (m * up e * down (pos 0)) (subst T (sym p) tt))
  where
    either_eq : (a b : ℕ) → T (false || (eqb a b && (false || eqb a 0))) → a ≡ b
    either_eq a b h = go (eqb a b) refl h
      where
        go : (x : Bool) → eqb a b ≡ x → T (false || (x && (false || eqb a 0))) → a ≡ b
        go true e h = eqb-true a b e
        go false e h = absurd h

    none : (m u : ℕ) → 0 < u → 0 ≡ m * u * 1 → m ≡ 0
    none zero u l e = refl
    none (suc m) u l e = absurd (omega (arith, mul-pos {m = suc m} (omega arith) l, e))
length_number (fin false m e) f p q = tidy (m * up e) (down e) (either_le (m * up e * 1) (225 * 2 ^ 4 * down e) _ (subst T (sym q) tt))
  where
    tidy : (x y : ℕ) → x * 1 ≤ most_length * y → x ≤ most_length * y
    tidy x y h = omega arith

pub length_good : (b : ℕ) → b < 2 ^ 64 → good_length b ≡ true → Length b
unfolding good_length finite le64
length_good b w h =
    let p = both_true (finite b && le64 0 b) (le64 b 0x40AC200000000000) h in
    let q = both_true (finite b) (le64 0 b) p.0 in
    record {
      number =
          length_number (of_bits binary64 b) q.0 (ap (λ (z : Number). le z (of_bits binary64 b)) (sym zero_is) ∙ q.1)
          (ap (λ (z : Number). le (of_bits binary64 b) z) (sym hours_is) ∙ p.1);
      word = w;
    }
