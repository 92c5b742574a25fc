-- Logs of document 01's first circuit, whole and not: a row for each clause of 16.
use Rattle.std.specs.Prelude.{ℕ, ◌+◌, ◌-◌, ◌^◌, ◌≡◌, refl, List, [], ◌∷◌, ◌++◌, map, length, take, replicate}
use Rattle.words.specs.Words.{bytes}
use Rattle.model.specs.Circuit.{circuit}
use Rattle.model.specs.Answer.{model_opened}
use Rattle.records.specs.Whole.{log_refusal, whole_opened}
use Rattle.records.specs.Reply.{refused, writes, buffer_after, told_after, reply_opened}
use Rattle.records.specs.Records.{records, log_words, ticks_read, records_opened}

-- a WorldEvent that brings 7, and a Toggle that it calls; outputs 0 and 2 are exec, 1 and 3 show values
abbrev lamp : List ℕ
lamp = 2 ∷ 1 ∷ 1 ∷ 1 ∷ 1 ∷ 7 ∷ 28 ∷ 22 ∷ 0 ∷ 1 ∷ (2 ^ 64 - 1) ∷ 0 ∷ 0 ∷ 0 ∷ []

-- what a reader is refused with that is lent these words as the log, before it asks anything of its own
unfoldable refusal_of : List ℕ → ℕ
refusal_of ws = log_refusal (bytes lamp) (bytes ws)

-- the Toggle is on, and the event brought 7
abbrev shown : List ℕ
shown = 0 ∷ 1 ∷ 0 ∷ 3 ∷ 0 ∷ 7 ∷ 0 ∷ 1 ∷ []

-- a tick with this number and so many steps, in which the event began
abbrev tick : ℕ → ℕ → List ℕ
tick t steps = t ∷ steps ∷ 1 ∷ 0 ∷ 0 ∷ 0 ∷ 0 ∷ 0 ∷ 2 ∷ shown

-- one that this stop ended, with no unit
abbrev stopped : ℕ → ℕ → ℕ → List ℕ
stopped t steps stop = t ∷ steps ∷ 0 ∷ 0 ∷ 0 ∷ stop ∷ 0 ∷ []

unfoldable examples_opened : ℕ
unfolding model_opened whole_opened records_opened refusal_of
examples_opened = 0

-- Document 01's first record, read and written again.
again : log_words (records (circuit lamp) (bytes (tick 1 1))) ≡ tick 1 1
unfolding examples_opened
again = refl

-- A stopped record is no tick read.
ticks_that_are_read : length (ticks_read (records (circuit lamp) (bytes (tick 1 1 ++ (tick 2 1 ++ stopped 3 0 12))))) ≡ 2
unfolding examples_opened
ticks_that_are_read = refl

-- No record is whole, and so is one, and so are two.
whole_logs : map refusal_of ([] ∷ tick 1 1 ∷ (tick 1 1 ++ tick 2 1) ∷ []) ≡ 0 ∷ 0 ∷ 0 ∷ []
unfolding examples_opened
whole_logs = refl

-- Ticks from 1 up by 1.
counted_ticks : map refusal_of (tick 0 1 ∷ tick 2 1 ∷ (tick 1 1 ++ tick 1 1) ∷ (tick 1 1 ++ tick 3 1) ∷ []) ≡ 16 ∷ 16 ∷ 16 ∷ 16 ∷ []
unfolding examples_opened
counted_ticks = refl

-- A byte less, a word less, a word more.
whole_words : map (λ log. log_refusal (bytes lamp) log) (take 135 (bytes (tick 1 1)) ∷ take 128 (bytes (tick 1 1)) ∷ bytes (tick 1 1 ++ (0 ∷ [])) ∷ []) ≡ 16 ∷ 16 ∷ 16 ∷ []
unfolding examples_opened
whole_words = refl

-- Steps to 50,000,000, one more only with stop 11; stop 11 with fewer too.
steps_to_the_limit :
    map refusal_of (tick 1 50000000 ∷ tick 1 50000001 ∷ stopped 1 50000001 11 ∷ stopped 1 50000001 12 ∷ stopped 1 50000002 11 ∷ stopped 1 9 11 ∷ [])
    ≡ 0 ∷ 16 ∷ 0 ∷ 16 ∷ 16 ∷ 0 ∷ []
unfolding examples_opened
steps_to_the_limit = refl

-- Stop 11 or 12 in the last record alone, and no other.
stopped_last :
    map refusal_of ((tick 1 1 ++ stopped 2 0 12) ∷ (stopped 1 0 12 ++ tick 2 1) ∷ (stopped 1 0 11 ++ stopped 2 0 11) ∷ stopped 1 0 13 ∷ stopped 1 0 1 ∷ []) ≡ 0 ∷ 16 ∷ 16 ∷ 16 ∷ 16 ∷ []
unfolding examples_opened
stopped_last = refl

-- A stopped record shows no outputs, and lists its carried units; one that is not stopped shows all.
shows_or_stopped :
    map refusal_of ((1 ∷ 1 ∷ 1 ∷ 0 ∷ 1 ∷ 11 ∷ 3 ∷ 0 ∷ 2 ∷ 0 ∷ 2 ∷ []) ∷ (stopped 1 0 11 ++ shown) ∷ (1 ∷ 1 ∷ 1 ∷ 0 ∷ 0 ∷ 0 ∷ 0 ∷ 0 ∷ 2 ∷ []) ∷ []) ≡ 0 ∷ 16 ∷ 16 ∷ []
unfolding examples_opened
shows_or_stopped = refl

-- As many units as a tick can begin, and one more; 256 carried, and one more.
counts_within_limits :
    map (λ n. refusal_of (1 ∷ 1 ∷ 24 ∷ n ∷ 0 ∷ 12 ∷ 0 ∷ replicate (24 + n) 0 ++ replicate (24 + n) 2)) (1000 ∷ 1001 ∷ []) ≡ 0 ∷ 16 ∷ []
unfolding examples_opened
counts_within_limits = refl

carried_within_limits : map (λ n. refusal_of (1 ∷ 1 ∷ 0 ∷ 0 ∷ n ∷ 12 ∷ 0 ∷ replicate n 0 ++ replicate n 2)) (256 ∷ 257 ∷ []) ≡ 0 ∷ 16 ∷ []
unfolding examples_opened
carried_within_limits = refl

-- Counts that come to one unit in 64 bits.
counts_that_wrap : refusal_of (1 ∷ 1 ∷ (2 ^ 63 + 1) ∷ (2 ^ 63) ∷ 0 ∷ 0 ∷ 0 ∷ 0 ∷ 2 ∷ shown) ≡ 16
unfolding examples_opened
counts_that_wrap = refl

-- The count of narrowings is no negative number.
narrowings_counted : map (λ n. refusal_of (1 ∷ 1 ∷ 0 ∷ 0 ∷ 0 ∷ 12 ∷ n ∷ [])) ((2 ^ 63 - 1) ∷ (2 ^ 63) ∷ []) ≡ 0 ∷ 16 ∷ []
unfolding examples_opened
narrowings_counted = refl

-- Gate and form of a unit: the event; no gate; forms that the event cannot have; the Toggle's E, which is only called.
gates_and_their_forms :
    map (λ (u : ℕ × ℕ). refusal_of (1 ∷ 1 ∷ 0 ∷ 1 ∷ 0 ∷ 0 ∷ 0 ∷ u.0 ∷ u.1 ∷ shown)) ((0, 2) ∷ (2, 2) ∷ (0, 0) ∷ (0, 1) ∷ (0, 16) ∷ (1, 16) ∷ (1, 2) ∷ [])
    ≡ 0 ∷ 16 ∷ 16 ∷ 16 ∷ 16 ∷ 16 ∷ 16 ∷ []
unfolding examples_opened
gates_and_their_forms = refl

-- Kinds and contents of a value output: as of constants, or 0 0.
values_as_constants :
    map (λ (v : ℕ × ℕ). refusal_of (1 ∷ 1 ∷ 0 ∷ 0 ∷ 0 ∷ 0 ∷ 0 ∷ 0 ∷ v.0 ∷ 0 ∷ 0 ∷ 0 ∷ v.1 ∷ 0 ∷ 0 ∷ []))
    ((0, 0) ∷ (0, 1) ∷ (1, 2 ^ 64 - 1) ∷ (2, 2 ^ 63) ∷ (2, 0x7FF0000000000000) ∷ (3, 1) ∷ (3, 2) ∷ (4, 0) ∷ [])
    ≡ 0 ∷ 16 ∷ 0 ∷ 0 ∷ 16 ∷ 0 ∷ 16 ∷ 16 ∷ []
unfolding examples_opened
values_as_constants = refl

-- An exec output shows 0 0, always.
exec_shows_nothing :
    map (λ (v : ℕ × ℕ). refusal_of (1 ∷ 1 ∷ 0 ∷ 0 ∷ 0 ∷ 0 ∷ 0 ∷ v.0 ∷ 0 ∷ 0 ∷ 0 ∷ v.1 ∷ 0 ∷ 0 ∷ 0 ∷ [])) ((0, 0) ∷ (1, 0) ∷ (0, 1) ∷ (3, 1) ∷ []) ≡ 0 ∷ 16 ∷ 16 ∷ 16 ∷ []
unfolding examples_opened
exec_shows_nothing = refl

-- The circuit is asked first.
circuit_first : log_refusal [] (bytes (tick 2 1)) ≡ 1
unfolding examples_opened
circuit_first = refl

-- What is written stands in front, and the rest stays; after a refusal all stays. The first word told is how many bytes were written.
left_by_a_reader :
    (buffer_after (writes (1 ∷ 2 ∷ [])) (7 ∷ 8 ∷ 9 ∷ []) ≡ 1 ∷ 2 ∷ 9 ∷ []) × (buffer_after (refused 16) (7 ∷ []) ≡ 7 ∷ []) × (told_after (writes (1 ∷ 2 ∷ [])) (7 ∷ 7 ∷ []) ≡ 2 ∷ 7 ∷ [])
    × (told_after (writes (1 ∷ [])) [] ≡ []) × (told_after (refused 16) (7 ∷ []) ≡ 7 ∷ [])
unfolding reply_opened
left_by_a_reader = (refl, refl, refl, refl, refl)
