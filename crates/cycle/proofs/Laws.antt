-- Laws of the remainder that is never negative, and of a step beside it.
use Prim.Native.Nat.{ℕ, zero, suc, ◌+◌, ◌-◌, ◌*◌, ◌/◌, ◌%◌, ◌^◌, ◌≤◌, ◌<◌}
use native.Mathlib.Nat.{mod-lt, mod_self, mod-eq_of_lt, zero-mod, div-add-mod', mul-add-mod_self_right, eq-or-lt_of_le}
use native.Mathlib.Omega.{arith}
use mathlib.Core.Path.{◌≡◌, refl, sym, ap, ◌∙◌}
use mathlib.Core.Bool.{Bool, true, false}
use mathlib.Core.Logic.{◌⊎◌, inl, inr}
use borrow.Author.Tests.{eq-eqb, ne_eqb}
use lib.IntN.{ℤ, pos, negsuc, suc_ℤ, pred_ℤ}
use mir.Facts.{to_z-of_z, to_z_pos, to_z-neg}
use mir.Syntax.{w64}
use mir.Val.{SFits}
use Rattle.words.specs.Words.{signed, unsigned}
use Rattle.model.specs.Base.{if◌then◌otherwise◌}
use Rattle.model.specs.Exec.{remainder, cycle_next}
use Rattle.cycle.specs.Step.{step}

-- ---- the next number's remainder

-- the remainder of the next number by n is 0, or one more than that of a
data Next (a n : ℕ) : Type 0 where
  wraps : suc (a % n) ≡ n → suc a % n ≡ 0 → Next a n
  goes_on : suc (a % n) < n → suc a % n ≡ suc (a % n) → Next a n

-- it is one or the other
next : (a n : ℕ) → 0 < n → Next a n
next a n p = go (eq-or-lt_of_le (mod-lt a p))
  where
    e : suc a % n ≡ suc (a % n) % n
    e = let h : suc a ≡ a / n * n + suc (a % n) = omega (arith, div-add-mod' a n) in ap (λ (x : ℕ). x % n) h ∙ mul-add-mod_self_right (a / n) n (suc (a % n))

    go : (suc (a % n) ≡ n) ⊎ (suc (a % n) < n) → Next a n
    go (inl h) = wraps h (e ∙ ap (λ (x : ℕ). x % n) h ∙ mod_self n)
    go (inr h) = goes_on h (e ∙ mod-eq_of_lt h)

-- ---- what a step gives

module _ (d : Bool) (n r x : ℕ) where
  -- down from 0
  pub down_wraps : d ≡ true → r ≡ 0 → x ≡ n - 1 → x ≡ step d n r
  unfolding step if◌then◌otherwise◌
  down_wraps b h e = rw (b, eq-eqb r 0 h) e

  -- down from any other number
  pub down_goes : d ≡ true → (r ≡ 0 → ⊥) → x ≡ r - 1 → x ≡ step d n r
  unfolding step if◌then◌otherwise◌
  down_goes b h e = rw (b, ne_eqb r 0 h) e

  -- up from the last number
  pub up_wraps : d ≡ false → r + 1 ≡ n → x ≡ 0 → x ≡ step d n r
  unfolding step if◌then◌otherwise◌
  up_wraps b h e = rw (b, eq-eqb (r + 1) n h) e

  -- up from any other number
  pub up_goes : d ≡ false → (r + 1 ≡ n → ⊥) → x ≡ r + 1 → x ≡ step d n r
  unfolding step if◌then◌otherwise◌
  up_goes b h e = rw (b, ne_eqb (r + 1) n h) e

-- ---- a step from a number's remainder is the remainder of the next number

-- up
step_up : (z : ℤ) (n : ℕ) → 0 < n → remainder (suc_ℤ z) n ≡ step false n (remainder z n)
unfolding remainder
step_up (pos a) n p = go (next a n p)
  where
    go : Next a n → suc a % n ≡ step false n (a % n)
    go (wraps h e) = up_wraps false n (a % n) (suc a % n) refl (omega arith) e
    go (goes_on h e) = up_goes false n (a % n) (suc a % n) refl (λ z. omega arith) (omega arith)
step_up (negsuc zero) n p = let z : 0 % n ≡ 0 = zero-mod n in up_wraps false n (n - suc (0 % n)) (0 % n) refl (omega arith) z
step_up (negsuc (suc a)) n p = go (next a n p)
  where
    go : Next a n → n - suc (a % n) ≡ step false n (n - suc (suc a % n))
    go (wraps h e) = up_wraps false n (n - suc (suc a % n)) (n - suc (a % n)) refl (omega arith) (omega arith)
    go (goes_on h e) = up_goes false n (n - suc (suc a % n)) (n - suc (a % n)) refl (λ z. omega arith) (omega arith)

-- down
step_down : (z : ℤ) (n : ℕ) → 0 < n → remainder (pred_ℤ z) n ≡ step true n (remainder z n)
unfolding remainder
step_down (pos zero) n p = let z : 0 % n ≡ 0 = zero-mod n in down_wraps true n (0 % n) (n - suc (0 % n)) refl z (omega arith)
step_down (pos (suc a)) n p = go (next a n p)
  where
    go : Next a n → a % n ≡ step true n (suc a % n)
    go (wraps h e) = down_wraps true n (suc a % n) (a % n) refl e (omega arith)
    go (goes_on h e) = down_goes true n (suc a % n) (a % n) refl (λ z. omega arith) (omega arith)
step_down (negsuc a) n p = go (next a n p)
  where
    go : Next a n → n - suc (suc a % n) ≡ step true n (n - suc (a % n))
    go (wraps h e) = down_wraps true n (n - suc (a % n)) (n - suc (suc a % n)) refl (omega arith) (omega arith)
    go (goes_on h e) = down_goes true n (n - suc (a % n)) (n - suc (suc a % n)) refl (λ z. omega arith) (omega arith)

-- ---- the result is below Count

-- a remainder by n is below n
pub remainder_below : (z : ℤ) (n : ℕ) → 0 < n → remainder z n < n
unfolding remainder
remainder_below (pos a) n p = mod-lt a p
remainder_below (negsuc a) n p = omega arith

-- for a Count above 0 the next number is below Count
pub cycle_below : (d : Bool) (n : ℕ) (now : ℤ) → 0 < n → cycle_next d (pos n) now < n
unfolding cycle_next
cycle_below d zero now p = p
cycle_below d (suc n) now p = remainder_below (if d then pred_ℤ now otherwise suc_ℤ now) (suc n) p

-- so no step gives more than 2 ^ 63 - 2, whatever Count is
pub cycle_most : (d : Bool) (count now : ℤ) → SFits w64 count → cycle_next d count now ≤ 2 ^ 63 - 2
unfolding cycle_next
cycle_most d (pos zero) now f = omega arith
cycle_most d (pos (suc n)) now f =
    let s : suc n < 2 ^ 63 = f.sfits in
    let l = cycle_below d (suc n) now (omega arith) in
    omega arith
cycle_most d (negsuc n) now f = omega arith

-- ---- a number from its word

-- a word below 2 ^ 63 is the number itself
pub from_word : (z : ℤ) (v : ℕ) → SFits w64 z → v ≡ unsigned (signed (unsigned z)) → v < 2 ^ 63 → z ≡ pos v
from_word z v f e h = go z v f (e ∙ ap unsigned (to_z-of_z f)) h
  where
    go : (z : ℤ) (v : ℕ) → SFits w64 z → v ≡ unsigned z → v < 2 ^ 63 → z ≡ pos v
    go (pos a) v f e h = ap pos (sym e)
    go (negsuc a) v f e h = let s : a < 2 ^ 63 = f.sfits in absurd (omega arith)

-- any other word v is that of v - 2 ^ 64
pub from_high_word : (z : ℤ) (v : ℕ) → SFits w64 z → v ≡ unsigned (signed (unsigned z)) → 2 ^ 63 ≤ v → z ≡ negsuc (2 ^ 64 - 1 - v)
from_high_word z v f e h = go z v f (e ∙ ap unsigned (to_z-of_z f)) h
  where
    go : (z : ℤ) (v : ℕ) → SFits w64 z → v ≡ unsigned z → 2 ^ 63 ≤ v → z ≡ negsuc (2 ^ 64 - 1 - v)
    go (pos a) v f e h = let s : a < 2 ^ 63 = f.sfits in absurd (omega arith)
    go (negsuc a) v f e h = let s : a < 2 ^ 63 = f.sfits in ap negsuc (omega arith)

-- ---- for a Count above 0

-- the step is one from the remainder of the number now,
stepped : (d : Bool) (n : ℕ) (now : ℤ) → 0 < n → step d n (remainder now n) ≡ cycle_next d (pos n) now
unfolding cycle_next if◌then◌otherwise◌
stepped d zero now p = absurd (omega arith)
stepped false (suc n) now p = sym (step_up now (suc n) p)
stepped true (suc n) now p = sym (step_down now (suc n) p)

-- and so from the number itself while it is below Count
pub by_comparison : (d : Bool) (n now : ℕ) → now < n → step d n now ≡ cycle_next d (pos n) (pos now)
unfolding remainder
by_comparison d n now h = ap (step d n) (sym (mod-eq_of_lt h)) ∙ stepped d n (pos now) (omega arith)

-- ---- one law for each way through the code

module _ (d : Bool) (count now : ℤ) (fc : SFits w64 count) (fn : SFits w64 now) (n : ℕ) (en : n ≡ unsigned (signed (unsigned count))) where
  -- a Count below 0
  pub count_below : 2 ^ 63 ≤ n → 0 ≡ cycle_next d count now
  unfolding cycle_next
  count_below h = rw (from_high_word count n fc en h) refl

  -- a Count of 0
  pub count_zero : n < 2 ^ 63 → n ≡ 0 → 0 ≡ cycle_next d count now
  unfolding cycle_next
  count_zero h z = rw (from_word count n fc en h, z) refl

  module _ (h : n < 2 ^ 63) (f : n ≡ 0 → ⊥) (w : ℕ) (ew : w ≡ unsigned (signed (unsigned now))) where
    -- the number now is below Count
    pub from_below : (r : ℕ) → r ≡ step d n w → w < n → r ≡ cycle_next d count now
    from_below r e l = rw (e, from_word count n fc en h) (rw (from_word now w fn ew (omega arith)) (by_comparison d n w l))

    -- it is not: Count has shrunk
    pub from_shrunk : (q r : ℕ) → r ≡ step d n q → q ≡ remainder (signed w) n → r ≡ cycle_next d count now
    from_shrunk q r e m =
        let z : signed w ≡ now = ap signed ew ∙ ap (λ z. signed (unsigned z)) (to_z-of_z fn) ∙ to_z-of_z fn in
        rw (e, m, z, from_word count n fc en h) (let p : 0 < n = omega (arith, f) in stepped d n now p)

-- ---- the remainder of a number that is not below Count, by its word

pub not_negative : (w n : ℕ) → w < 2 ^ 63 → 0 < n → (w % n ≡ remainder (signed w) n) × (w % n < n)
unfolding remainder
not_negative w n h p = (rw (to_z_pos w64 {n = w} h) refl, mod-lt w p)

pub negative : (w n r : ℕ) → w < 2 ^ 64 → 2 ^ 63 ≤ w → 0 < n → r ≡ n - suc ((2 ^ 64 - 1 - w) % n) → (r ≡ remainder (signed w) n) × (r < n)
unfolding remainder
negative w n r h g p e =
    let k = 2 ^ 64 - 1 - w in
    let s : signed w ≡ negsuc k = ap signed (let v : w ≡ 2 ^ 64 - suc k = omega arith in v) ∙ to_z-neg w64 k (omega arith) in
    (e ∙ ap (λ z. remainder z n) (sym s), omega arith)
