-- Countdowns, and how buffers, Queues, Clocks and Stopwatches take what comes to them and move on by a tick.
use Rattle.std.specs.Prelude.{ℕ, suc, ◌-◌, max, Bool, true, false, not, ◌&&◌, List, [], ◌∷◌, map, ltb, eqb, ℤ, pos, negsuc, length}
use Rattle.std.proofs.Math.Option.{Option, none, some}
use Rattle.std.specs.Int.Signed.{le_z}
use Rattle.model.specs.declared.Value.{Value}
use Rattle.model.specs.declared.Value.TheVariants.{Float}
use Rattle.model.specs.Base.{if◌then◌otherwise◌, snoc}
use Rattle.model.specs.Value.{as_int, as_float, plus64, le64, lt64, plus32, le32, narrow, narrow_changes, minus_one_point_zero}
use Rattle.model.specs.State.{Countdown, ticks_left, seconds, Flight, Queued, Delay, flight≔, fires≔, elapsed≔, records≔}

-- ---- countdowns

-- a number that is not negative; 0 for a negative one
unfoldable pub nat : ℤ → ℕ
nat (pos n) = n
nat (negsuc n) = 0

-- a countdown that starts, and whether narrowing changed its wait
pub record Started : Type 0 where
  pub left : Countdown
  pub changed : Bool

-- a tick countdown starts at max(1, t)
unfoldable pub in_ticks : ℤ → Started
in_ticks t = record { left = ticks_left (max 1 (nat t)); changed = false }

-- seconds count in f32, from 0.0; only here is a wait narrowed
unfoldable pub in_seconds : ℕ → Started
in_seconds wait = record { left = seconds (narrow wait) 0; changed = narrow_changes wait }

-- one tick, of the length dt in f32; what is due stays due
unfoldable pub tick_down : ℕ → Countdown → Countdown
tick_down dt (ticks_left n) = ticks_left (n - 1)
tick_down dt (seconds wait elapsed) = seconds wait (plus32 elapsed dt)

-- its ticks are over, or its seconds have come to the wait
unfoldable pub due : Countdown → Bool
due (ticks_left n) = eqb n 0
due (seconds wait elapsed) = le32 wait elapsed

-- A buffer's countdown, by its settings wait and zero wait: the zero wait for a value that is not true (not rising), unless it is negative; nothing is a
-- wait of 0 and a zero wait of -1.
unfoldable pub countdown_ticks : Bool → Value → Value → Started
countdown_ticks rising wait zero_wait =
    in_ticks (if not rising && le_z (pos 0) (as_int (negsuc 0) zero_wait) then as_int (negsuc 0) zero_wait otherwise as_int (pos 0) wait)

-- the same in seconds
unfoldable pub countdown_seconds : Bool → Value → Value → Started
countdown_seconds rising wait zero_wait =
    in_seconds (if not rising && le64 0 (as_float minus_one_point_zero zero_wait) then as_float minus_one_point_zero zero_wait otherwise as_float 0 wait)

-- What moving on by a tick comes to: the state, the row of values that it hands out, how often it fires, and whether narrowing changed a wait.
pub record Moved : Type 0 where
  pub state : Delay
  pub row : List Value
  pub fires : ℕ
  pub changed : Bool

-- the same, where no wait was changed
unfoldable pub moved : Delay → List Value → ℕ → Moved
moved d row n = record { state = d; row = row; fires = n; changed = false }

-- ---- a value buffer

-- a value in flight
unfoldable pub launch : Value → Countdown → Option Flight
launch v k = some (record { what = v; left = k })

-- a new input, with its countdown: while a value is in flight only the last later input is remembered
unfoldable pub buffer_input : Delay → Value → Countdown → Delay
buffer_input d v k = elim d.flight [ none ↦ flight≔ d (launch v k) d.later | some f ↦ flight≔ d (some f) (some v) ]

-- the value v lands, and the remembered input starts a countdown of its own, which `start` gives
unfoldable pub landed : (Value → Started) → Delay → Value → Moved
landed start d v =
    elim d.later [
      | none ↦ moved (flight≔ d none none) (v ∷ []) 0
      | some u ↦ record { state = flight≔ d (launch u (start u).left) none; row = v ∷ []; fires = 0; changed = (start u).changed }
    ]

-- it lands when its countdown is due
unfoldable pub flown : (Value → Started) → Delay → Value → Countdown → Moved
flown start d v k = if due k then landed start d v otherwise moved (flight≔ d (launch v k) d.later) [] 0

-- a value buffer moves on by a tick of the length dt in f32
unfoldable pub advance_flight : (Value → Started) → ℕ → Delay → Moved
advance_flight start dt d = elim d.flight [ none ↦ moved d [] 0 | some f ↦ flown start d f.what (tick_down dt f.left) ]

-- ---- a buffer in exec mode: the fires that are due, from the front

-- those due leave from the front, and n have fired
unfoldable pub drop_due : Delay → List Countdown → ℕ → Moved
drop_due d [] n = moved (fires≔ d []) [] n
drop_due d (k ∷ ks) n = elim (due k) [ true ↦ drop_due d ks (suc n) | false ↦ moved (fires≔ d (k ∷ ks)) [] n ]

-- a buffer in exec mode moves on: all its fires count down
unfoldable pub advance_fires : ℕ → Delay → Moved
advance_fires dt d = drop_due d (map (tick_down dt) d.fires) 0

-- ---- a Queue: with 256 records a new one is dropped; all count down, and the front one alone is handed out if it is due

-- the records that a Queue keeps
abbrev pub most_records : ℕ
most_records = 256

-- a new record, with its countdown
unfoldable pub queue_record : Delay → List Value → Countdown → Delay
queue_record d row k = if ltb (length d.records) most_records then records≔ d (snoc d.records (record { row = row; left = k })) otherwise d

-- the front record, if it is due
unfoldable pub hand_out : Delay → List Queued → Moved
hand_out d [] = moved (records≔ d []) [] 0
hand_out d (q ∷ qs) = if due q.left then moved (records≔ d qs) q.row 1 otherwise moved (records≔ d (q ∷ qs)) [] 0

-- a Queue moves on: all its records count down
unfoldable pub advance_records : ℕ → Delay → Moved
advance_records dt d = hand_out d (map (λ q. record { row = q.row; left = tick_down dt q.left }) d.records)

-- ---- a Clock: at its interval it goes back to 0.0 and loses the excess

-- at t seconds
unfoldable pub clock_at : Delay → ℕ → ℕ → Moved
clock_at d interval t = if le64 interval t then moved (elapsed≔ d 0 false) [] 1 otherwise moved (elapsed≔ d t false) [] 0

-- a Clock moves on by dt seconds in f64, if it is enabled
unfoldable pub advance_elapsed : ℕ → ℕ → Bool → Delay → Moved
advance_elapsed dt interval enabled d = if enabled then clock_at d interval (plus64 d.elapsed dt) otherwise moved d [] 0

-- ---- a Stopwatch: it ends at its limit, if that is above zero, and shows its time

-- at t seconds
unfoldable pub stopwatch_at : Delay → ℕ → ℕ → Moved
stopwatch_at d limit t =
    if lt64 0 limit && le64 limit t then moved (elapsed≔ d limit false) (Float limit ∷ []) 1 otherwise moved (elapsed≔ d t true) (Float t ∷ []) 0

-- a Stopwatch moves on by dt seconds in f64, if it runs
unfoldable pub advance_time : ℕ → ℕ → Delay → Moved
advance_time dt limit d = if d.running then stopwatch_at d limit (plus64 d.elapsed dt) otherwise moved d [] 0

-- by its pin: 0 Restart, 1 Pause, 2 Resume
unfoldable pub pressed : ℕ → Delay → Delay
pressed p d = if eqb p 0 then elapsed≔ d 0 true otherwise elapsed≔ d d.elapsed (eqb p 2)

unfoldable pub delays_opened : ℕ
unfolding nat in_ticks in_seconds tick_down due countdown_ticks countdown_seconds moved launch buffer_input landed flown advance_flight drop_due advance_fires queue_record hand_out advance_records clock_at advance_elapsed stopwatch_at advance_time pressed
delays_opened = 0
