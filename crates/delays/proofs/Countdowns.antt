-- Laws of countdowns: each way out of the functions of countdown.rt, what a word gives back, and which countdowns count seconds.
use Prim.Native.Nat.{ℕ, ◌+◌, ◌-◌, ◌*◌, ◌/◌, ◌%◌, ◌^◌, ◌<◌, max}
use mathlib.Core.Path.{◌≡◌, refl, sym, ap, ◌∙◌, subst}
use mathlib.Core.Bool.{Bool, true, false, not, ◌&&◌, cond}
use native.Mathlib.Omega.{arith}
use lib.Dec.{eqb, leb, ltb}
use lib.IntN.{ℤ, pos, negsuc, nat_abs}
use Rattle.std.specs.Int.{int_max}
use lib.Signed.{le_z}
use mir.Syntax.{w64}
use mir.Val.{to_z, of_z, SFits}
use mir.Facts.{to_z-of_z}
use borrow.Author.Tests.{ltb-true, ltb-false}
use Rattle.model.specs.declared.Value.{Value}
use Rattle.model.specs.Base.{if◌then◌otherwise◌}
use Rattle.model.specs.Value.{as_int, as_float, narrow, narrow_changes, le64, plus32, le32, minus_one_point_zero}
use Rattle.model.specs.Circuit.{Circuit, kind_of_gate, setting}
use Rattle.model.specs.State.{Countdown, ticks_left, seconds}
use Rattle.model.specs.Exec.{countdown}
use Rattle.model.specs.Delays.{nat, Started, in_ticks, in_seconds, tick_down, due, countdown_ticks, countdown_seconds}
use Rattle.delays.specs.declared.countdown.Countdown.{Countdown as Counting}
use Rattle.delays.specs.declared.countdown.Countdown.TheVariants.{Ticks, Seconds}
use Rattle.delays.specs.declared.countdown.Started.{Started as Starting}
use Rattle.delays.specs.States.{counted, started, counts_seconds, word_of, of_word, countdown_by}

-- ---- at the start

at_least_one : (t : ℤ) → nat_abs (int_max t (pos 1)) ≡ max 1 (nat t)
unfolding nat
at_least_one (pos n) = go (ltb 1 n) refl
  where
    go : (b : Bool) → ltb 1 n ≡ b → nat_abs (cond b (pos n) (pos 1)) ≡ max 1 n
    go true h = omega (arith, ltb-true 1 n h)
    go false h = omega (arith, ltb-false 1 n h)
at_least_one (negsuc n) = refl

-- a countdown of n ticks starts
abbrev ticking : ℕ → Starting
ticking n = record { left = Ticks n; changed = false }

-- a wait of t ticks, at least 1: a cast loses nothing
pub ticks_start : (t m : ℤ) → SFits w64 t → SFits w64 m → m ≡ int_max (to_z w64 (of_z w64 t)) (pos 1) → started (ticking (nat_abs (to_z w64 (of_z w64 m)))) ≡ in_ticks t
unfolding started counted in_ticks
ticks_start t m f g e =
    let q : to_z w64 (of_z w64 m) ≡ int_max t (pos 1) = to_z-of_z g ∙ e ∙ ap (λ (x : ℤ). int_max x (pos 1)) (to_z-of_z f) in
    ap (λ (n : ℕ). record { left = ticks_left n; changed = false }) (ap nat_abs q ∙ at_least_one t)

pub seconds_in : (wait w : ℕ) (x : Bool) → (w ≡ narrow wait) × (x ≡ narrow_changes wait) → started (record { left = Seconds w 0; changed = x }) ≡ in_seconds wait
unfolding started counted in_seconds
seconds_in wait w x e = λ j. record { left = seconds (e.0 j) 0; changed = e.1 j }

-- ---- by a buffer's settings

-- the choice between the zero wait z, if it is to be used, and the wait w
module _ {A : Type 0} (start : A → Started) (rising used : Bool) (z w : A) where
  choice_rising : rising ≡ true → start w ≡ start (if not rising && used then z otherwise w)
  unfolding if◌then◌otherwise◌
  choice_rising e = rw e

  choice_zero : rising ≡ false → used ≡ true → start z ≡ start (if not rising && used then z otherwise w)
  unfolding if◌then◌otherwise◌
  choice_zero e h = rw (e, h)

  choice_unused : rising ≡ false → used ≡ false → start w ≡ start (if not rising && used then z otherwise w)
  unfolding if◌then◌otherwise◌
  choice_unused e h = rw (e, h)

module _ (rising : Bool) (wait zero_wait : Value) (k : Started) where
  pub ticks_rising : (x : ℤ) → SFits w64 x → rising ≡ true → x ≡ as_int (pos 0) wait → k ≡ in_ticks (to_z w64 (of_z w64 x))
      → k ≡ countdown_ticks rising wait zero_wait
  unfolding countdown_ticks
  ticks_rising x f e a h =
      h ∙ ap in_ticks (to_z-of_z f ∙ a) ∙ choice_rising in_ticks rising (le_z (pos 0) (as_int (negsuc 0) zero_wait)) (as_int (negsuc 0) zero_wait) (as_int (pos 0) wait) e

  pub ticks_zero : (z : ℤ) → SFits w64 z → rising ≡ false → z ≡ as_int (negsuc 0) zero_wait → le_z (pos 0) (to_z w64 (of_z w64 z)) ≡ true
      → k ≡ in_ticks (to_z w64 (of_z w64 z)) → k ≡ countdown_ticks rising wait zero_wait
  unfolding countdown_ticks
  ticks_zero z f e a u h =
      let q = to_z-of_z f ∙ a in
      h ∙ ap in_ticks q ∙ choice_zero in_ticks rising (le_z (pos 0) (as_int (negsuc 0) zero_wait)) (as_int (negsuc 0) zero_wait) (as_int (pos 0) wait) e (rw q at u)

  pub ticks_unused : (z x : ℤ) → SFits w64 z → SFits w64 x → rising ≡ false → z ≡ as_int (negsuc 0) zero_wait → le_z (pos 0) (to_z w64 (of_z w64 z)) ≡ false
      → x ≡ as_int (pos 0) wait → k ≡ in_ticks (to_z w64 (of_z w64 x)) → k ≡ countdown_ticks rising wait zero_wait
  unfolding countdown_ticks
  ticks_unused z x g f e a u b h =
      let q = to_z-of_z g ∙ a in
      h ∙ ap in_ticks (to_z-of_z f ∙ b) ∙ choice_unused in_ticks rising (le_z (pos 0) (as_int (negsuc 0) zero_wait)) (as_int (negsuc 0) zero_wait) (as_int (pos 0) wait) e (rw q at u)

  pub seconds_rising : (x : ℕ) → rising ≡ true → x ≡ as_float 0 wait → k ≡ in_seconds x → k ≡ countdown_seconds rising wait zero_wait
  unfolding countdown_seconds
  seconds_rising x e a h =
      h ∙ ap in_seconds a ∙ choice_rising in_seconds rising (le64 0 (as_float minus_one_point_zero zero_wait)) (as_float minus_one_point_zero zero_wait) (as_float 0 wait) e

  pub seconds_zero : (z : ℕ) (u : Bool) → rising ≡ false → z ≡ as_float minus_one_point_zero zero_wait → u ≡ le64 0 z → u ≡ true → k ≡ in_seconds z
      → k ≡ countdown_seconds rising wait zero_wait
  unfolding countdown_seconds
  seconds_zero z u e a l t h =
      h ∙ ap in_seconds a ∙ choice_zero in_seconds rising (le64 0 (as_float minus_one_point_zero zero_wait)) (as_float minus_one_point_zero zero_wait) (as_float 0 wait) e (ap (le64 0) (sym a) ∙ sym l ∙ t)

  pub seconds_unused : (z x : ℕ) (u : Bool) → rising ≡ false → z ≡ as_float minus_one_point_zero zero_wait → u ≡ le64 0 z → u ≡ false → x ≡ as_float 0 wait
      → k ≡ in_seconds x → k ≡ countdown_seconds rising wait zero_wait
  unfolding countdown_seconds
  seconds_unused z x u e a l t b h =
      h ∙ ap in_seconds b ∙ choice_unused in_seconds rising (le64 0 (as_float minus_one_point_zero zero_wait)) (as_float minus_one_point_zero zero_wait) (as_float 0 wait) e (ap (le64 0) (sym a) ∙ sym l ∙ t)

  pub by_seconds : (s : Bool) → s ≡ true → k ≡ countdown_seconds rising wait zero_wait → k ≡ countdown_by s rising wait zero_wait
  unfolding countdown_by if◌then◌otherwise◌
  by_seconds s e h = rw e h

  pub by_ticks : (s : Bool) → s ≡ false → k ≡ countdown_ticks rising wait zero_wait → k ≡ countdown_by s rising wait zero_wait
  unfolding countdown_by if◌then◌otherwise◌
  by_ticks s e h = rw e h

-- the countdown that the definition starts for a gate
pub of_gate : (c : Circuit) (g : ℕ) (rising : Bool) → countdown c g rising ≡ countdown_by (leb 12 (kind_of_gate c g)) rising (setting c g 1) (setting c g 2)
unfolding countdown countdown_by
of_gate c g rising = refl

-- ---- a tick

pub one_less : (k : Counting) (n dt : ℕ) → k ≡ Ticks n → counted (Ticks (n - 1)) ≡ tick_down dt (counted k)
unfolding counted tick_down
one_less k n dt e = rw e

pub more_seconds : (k : Counting) (wait elapsed dt r : ℕ) → k ≡ Seconds wait elapsed → r ≡ plus32 elapsed dt → counted (Seconds wait r) ≡ tick_down dt (counted k)
unfolding counted tick_down
more_seconds k wait elapsed dt r e p = rw (e, p)

-- ---- whether it is due

pub due_ticks : (k : Counting) (n : ℕ) → k ≡ Ticks n → eqb n 0 ≡ due (counted k)
unfolding counted due
due_ticks k n e = rw e

pub due_seconds : (k : Counting) (wait elapsed : ℕ) (r : Bool) → k ≡ Seconds wait elapsed → r ≡ le32 wait elapsed → r ≡ due (counted k)
unfolding counted due
due_seconds k wait elapsed r e p = rw (e, p)

-- ---- as a word

-- a word gives back the countdown that it was made of, where the wait is an f32's bits
pub word_back : (k : Countdown) → ((wait elapsed : ℕ) → k ≡ seconds wait elapsed → wait < 2 ^ 32) → of_word (counts_seconds k) (word_of k) ≡ k
unfolding counts_seconds of_word word_of
word_back (ticks_left n) l = refl
word_back (seconds wait elapsed) l =
    let m : wait < 2 ^ 32 = l wait elapsed refl in
    let a : (wait + 2 ^ 32 * elapsed) % 2 ^ 32 ≡ wait = omega arith in
    let b : (wait + 2 ^ 32 * elapsed) / 2 ^ 32 ≡ elapsed = omega arith in
    λ j. seconds (a j) (b j)

-- the same where it is known what k counts
pub word_kept : (s : Bool) (w : ℕ) (k : Countdown) → counts_seconds k ≡ s → of_word (counts_seconds k) w ≡ k → of_word s w ≡ k
word_kept s w k e b = ap (λ (a : Bool). of_word a w) (sym e) ∙ b

pub word_ticks : (k : Counting) (n : ℕ) → k ≡ Ticks n → (n ≡ word_of (counted k)) × (of_word (counts_seconds (counted k)) n ≡ counted k)
unfolding counted word_of of_word counts_seconds
word_ticks k n e = rw e (refl, refl)

-- the wait, where it counts seconds
wait_of : Countdown → ℕ
wait_of (ticks_left n) = 0
wait_of (seconds wait elapsed) = wait

pub word_seconds : (k : Counting) (wait elapsed : ℕ) → k ≡ Seconds wait elapsed → wait < 2 ^ 32
    → (wait + elapsed * 2 ^ 32 ≡ word_of (counted k)) × (of_word (counts_seconds (counted k)) (wait + elapsed * 2 ^ 32) ≡ counted k)
unfolding counted word_of wait_of
word_seconds k wait elapsed e l =
    let m : wait + elapsed * 2 ^ 32 ≡ wait + 2 ^ 32 * elapsed = omega arith in
    rw (m, e) (refl, word_back (seconds wait elapsed) (λ w x q. subst (λ n. n < 2 ^ 32) (ap wait_of q) l))

pub of_seconds : (s : Bool) (w : ℕ) → s ≡ true → counted (Seconds (w % 2 ^ 32) (w / 2 ^ 32)) ≡ of_word s w
unfolding counted of_word
of_seconds s w e = rw e

pub of_ticks : (s : Bool) (w : ℕ) → s ≡ false → counted (Ticks w) ≡ of_word s w
unfolding counted of_word
of_ticks s w e = rw e

-- ---- which of the two it is

pub kind_by : (s rising : Bool) (wait zero_wait : Value) → counts_seconds (countdown_by s rising wait zero_wait).left ≡ s
unfolding counts_seconds countdown_by countdown_ticks countdown_seconds in_ticks in_seconds if◌then◌otherwise◌
kind_by true rising wait zero_wait = refl
kind_by false rising wait zero_wait = refl

pub kind_word : (s : Bool) (w : ℕ) → counts_seconds (of_word s w) ≡ s
unfolding counts_seconds of_word
kind_word true w = refl
kind_word false w = refl

pub kind_tick : (dt : ℕ) (k : Countdown) → counts_seconds (tick_down dt k) ≡ counts_seconds k
unfolding counts_seconds tick_down
kind_tick dt (ticks_left n) = refl
kind_tick dt (seconds wait elapsed) = refl
