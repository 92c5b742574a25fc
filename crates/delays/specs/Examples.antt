-- Examples, by computation.
use Rattle.std.specs.Prelude.{◌+◌, ◌*◌, ◌^◌, ◌≡◌, refl, true, false, [], ◌∷◌, map, pos, replicate, set, None, Some}
use Rattle.model.specs.Base.{base_opened}
use Rattle.model.specs.Value.{value_opened, minus_one_point_zero, one_point_zero}
use Rattle.model.specs.declared.Value.TheVariants.{Nothing, Int, Float}
use Rattle.model.specs.State.{state_opened, ticks_left, seconds}
use Rattle.model.specs.Delays.{delays_opened, in_ticks, tick_down, due, advance_flight, advance_elapsed, advance_time}
use Rattle.delays.specs.declared.countdown.Countdown.TheVariants.{Ticks}
use Rattle.delays.specs.declared.buffer.Buffer.{Buffer}
use Rattle.delays.specs.declared.stopwatch.Stopwatch.{Stopwatch}
use Rattle.delays.specs.States.{states_opened, word_of, of_word, ring, countdown_by, starts, buffer, buffer_moved, clock, clock_moved, stopwatch, stopwatch_moved}

-- ---- countdowns

-- a wait of 0 is due one tick later, a wait of 2 two ticks later
after_one : due (tick_down 0 (in_ticks (pos 0)).left) ≡ true
unfolding delays_opened
after_one = refl

not_yet : due (tick_down 0 (in_ticks (pos 2)).left) ≡ false
unfolding delays_opened
not_yet = refl

after_two : due (tick_down 0 (tick_down 0 (in_ticks (pos 2)).left)) ≡ true
unfolding delays_opened
after_two = refl

-- the zero wait is for a value that is not true, unless it is negative
zero_wait_used : (countdown_by false false (Int 5) (Int 2)).left ≡ ticks_left 2
unfolding states_opened delays_opened value_opened base_opened
zero_wait_used = refl

rising_waits : (countdown_by false true (Int 5) (Int 2)).left ≡ ticks_left 5
unfolding states_opened delays_opened value_opened base_opened
rising_waits = refl

negative_unused : (countdown_by true false (Float one_point_zero) (Float minus_one_point_zero)).left ≡ seconds 0x3F800000 0
unfolding states_opened delays_opened value_opened base_opened
negative_unused = refl

-- a wait of 0.1 is changed, one of 1.0 and one in ticks are not
tenth_changed : map (λ x. (countdown_by true true (Float x) Nothing).changed) (0x3FB999999999999A ∷ one_point_zero ∷ []) ≡ true ∷ false ∷ []
unfolding states_opened delays_opened value_opened base_opened
tenth_changed = refl

ticks_unchanged : (countdown_by false true (Int 5) Nothing).changed ≡ false
unfolding states_opened delays_opened value_opened base_opened
ticks_unchanged = refl

-- a word has the wait in its lower half
halves : word_of (seconds 7 9) ≡ 7 + 9 * 2 ^ 32
unfolding states_opened
halves = refl

halves_back : of_word true (7 + 9 * 2 ^ 32) ≡ seconds 7 9
unfolding states_opened
halves_back = refl

-- ---- a value buffer: 1 lands, and 0, the last later input, starts with its zero wait

in_flight : Buffer
in_flight = record { flight = Some (record { what = Int 1; left = Ticks 1 }); later = Some (Int 0); landed = None; changed = false }

one_landed : Buffer
one_landed = record { flight = Some (record { what = Int 0; left = Ticks 3 }); later = None; landed = Some (Int 1); changed = false }

lands : advance_flight (starts false (Int 9) (Int 3)) 0 (buffer in_flight) ≡ buffer_moved one_landed
unfolding in_flight one_landed states_opened state_opened delays_opened value_opened base_opened
lands = refl

-- ---- the ring goes on from slot 31 to slot 0

around : ring 2 31 (set (set (replicate 32 0) 31 5) 0 6) ≡ 5 ∷ 6 ∷ []
unfolding states_opened
around = refl

-- ---- a Clock at 0.75 and ticks of 0.5: the excess over 1.0 is lost

excess_lost : advance_elapsed 0x3FE0000000000000 one_point_zero true (clock (record { elapsed = 0x3FE8000000000000; fired = false }))
    ≡ clock_moved (record { elapsed = 0; fired = true })
unfolding states_opened state_opened delays_opened value_opened base_opened
excess_lost = refl

-- ---- a Stopwatch at 0.5 and ticks of 0.5: a limit of 1.0 is met, a limit of 0.0 is none

half : Stopwatch
half = record { time = 0x3FE0000000000000; running = true; shows = false; expired = false }

limit_met : advance_time 0x3FE0000000000000 one_point_zero (stopwatch half)
    ≡ stopwatch_moved (record { time = one_point_zero; running = false; shows = true; expired = true })
unfolding half states_opened state_opened delays_opened value_opened base_opened
limit_met = refl

no_limit : advance_time 0x3FE0000000000000 0 (stopwatch half)
    ≡ stopwatch_moved (record { time = one_point_zero; running = true; shows = true; expired = false })
unfolding half states_opened state_opened delays_opened value_opened base_opened
no_limit = refl
