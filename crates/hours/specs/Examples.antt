-- Reports, computed: a row for each sentence of document 02's K3.
use Rattle.std.specs.Prelude.{ℕ, ◌-◌, ◌*◌, ◌^◌, ◌≡◌, refl, List, [], ◌∷◌, ◌++◌, map, replicate}
use Rattle.words.specs.Words.{bytes}
use Rattle.model.specs.Base.{joined, from, base_opened}
use Rattle.model.specs.Answer.{model_opened}
use Rattle.records.specs.Whole.{whole_opened}
use Rattle.records.specs.Records.{records_opened}
use Rattle.records.specs.Reply.{Reply, refused, writes, reply_number, buffer_after, told_after, reply_opened}
use Rattle.hours.specs.Hours.{unassigned, assigned, minutes, report, report_words, hours, hours_opened}

-- ---- the report

-- To the nearest minute, the half upwards.
halves : map minutes (0 ∷ 29999 ∷ 30000 ∷ 30001 ∷ 89999 ∷ 90000 ∷ 149999 ∷ 150000 ∷ 6000000000 ∷ []) ≡ 0 ∷ 0 ∷ 1 ∷ 1 ∷ 1 ∷ 2 ∷ 2 ∷ 3 ∷ 100000 ∷ []
unfolding hours_opened
halves = refl

-- Driver 9 appears first, then 4; a tick is nobody's; ticks of 45 seconds. Every activity of a driver has its line.
two_drivers :
    report_words (report 45000 (assigned 9 2 ∷ unassigned ∷ assigned 4 0 ∷ assigned 9 2 ∷ []))
    ≡ 1 ∷ 9 ∷ 0 ∷ 0 ∷ 0 ∷ 1 ∷ 9 ∷ 1 ∷ 0 ∷ 0 ∷ 1 ∷ 9 ∷ 2 ∷ 90000 ∷ 2 ∷ 1 ∷ 9 ∷ 3 ∷ 0 ∷ 0
    ∷ 1 ∷ 4 ∷ 0 ∷ 45000 ∷ 1 ∷ 1 ∷ 4 ∷ 1 ∷ 0 ∷ 0 ∷ 1 ∷ 4 ∷ 2 ∷ 0 ∷ 0 ∷ 1 ∷ 4 ∷ 3 ∷ 0 ∷ 0
    ∷ 0 ∷ 0 ∷ 0 ∷ 45000 ∷ 1 ∷ []
unfolding base_opened hours_opened
two_drivers = refl

-- No tick at all: the last line alone.
no_ticks : report_words (report 1000 []) ≡ 0 ∷ 0 ∷ 0 ∷ 0 ∷ 0 ∷ []
unfolding base_opened hours_opened
no_ticks = refl

-- ---- the call

-- the word -1
abbrev -1 : ℕ
-1 = 2 ^ 64 - 1

-- a Var shows the driver and another the activity; outputs 0 and 1; output 2 is a Union's, an exec
unfoldable van : List ℕ
van = bytes (3 ∷ 0 ∷ 3 ∷ 0 ∷ 5 ∷ 5 ∷ 21 ∷ 0 ∷ 0 ∷ 0 ∷ -1 ∷ -1 ∷ -1 ∷ 0 ∷ 0 ∷ 0 ∷ [])

-- tick t, in which the two show these kinds and contents
abbrev tick : ℕ → ℕ → ℕ → ℕ → ℕ → List ℕ
tick t k d j a = t ∷ 0 ∷ 0 ∷ 0 ∷ 0 ∷ 0 ∷ 0 ∷ k ∷ j ∷ 0 ∷ d ∷ a ∷ 0 ∷ []

-- and a tick that was stopped
abbrev stopped : ℕ → List ℕ
stopped t = t ∷ 0 ∷ 0 ∷ 0 ∷ 0 ∷ 12 ∷ 0 ∷ []

-- a call with driver 0, activity 1, ticks of 30 seconds and room for this many words
unfoldable reported : ℕ → List ℕ → Reply
reported room log = hours van (bytes log) 0 1 30000 (8 * room)

unfoldable examples_opened : ℕ
unfolding model_opened whole_opened records_opened reply_opened hours_opened van reported
examples_opened = 0

-- what the report of one driver says, and of nobody's ticks
abbrev one_driver : ℕ → ℕ → ℕ → ℕ → ℕ → ℕ → ℕ → ℕ → ℕ → ℕ → ℕ → List ℕ
one_driver d m₀ n₀ m₁ n₁ m₂ n₂ m₃ n₃ m n = 1 ∷ d ∷ 0 ∷ m₀ ∷ n₀ ∷ 1 ∷ d ∷ 1 ∷ m₁ ∷ n₁ ∷ 1 ∷ d ∷ 2 ∷ m₂ ∷ n₂ ∷ 1 ∷ d ∷ 3 ∷ m₃ ∷ n₃ ∷ 0 ∷ 0 ∷ 0 ∷ m ∷ n ∷ []

-- Two ticks of driver 7 driving, one resting; a stopped record is no tick read.
one_shift : reported 25 (tick 1 1 7 1 3 ++ (tick 2 1 7 1 3 ++ (tick 3 1 7 1 0 ++ stopped 4))) ≡ writes (bytes (one_driver 7 30000 1 0 0 0 0 60000 1 0 0))
unfolding examples_opened
one_shift = refl

-- Driver -1 is a driver. Where either shows no Int, or the activity is 4 or -1, the tick is unassigned, and makes no driver appear.
unassigned_ticks :
    reported 25 (tick 1 1 5 1 4 ++ (tick 2 1 5 1 -1 ++ (tick 3 3 1 1 0 ++ (tick 4 1 5 3 0 ++ (tick 5 1 -1 1 1 ++ (tick 6 0 0 0 0 ++ tick 7 2 0 1 0))))))
    ≡ writes (bytes (one_driver -1 0 0 30000 1 0 0 0 0 180000 3))
unfolding examples_opened
unassigned_ticks = refl

-- An empty log has the last line alone; it fits five words, and no less.
empty_log : (reported 5 [] ≡ writes (bytes (0 ∷ 0 ∷ 0 ∷ 0 ∷ 0 ∷ []))) × (hours van [] 0 1 30000 39 ≡ refused 18)
unfolding examples_opened
empty_log = (refl, refl)

-- 32 drivers, one in each tick, and a 33rd, whose lines would fit.
drivers_shown : ℕ → List ℕ
drivers_shown n = joined (map (λ t. tick t 1 t 1 0) (from 1 n))

many_drivers : (reply_number (reported 645 (drivers_shown 32)) ≡ 0) × (reply_number (reported 644 (drivers_shown 32)) ≡ 18) × (reply_number (reported 1000 (drivers_shown 33)) ≡ 18)
unfolding examples_opened drivers_shown
many_drivers = (refl, refl, refl)

-- Driver and activity may be one output; an exec, no output, -1 are none. Lengths from 1 to 60,000.
names_asked :
    map (λ (a : ℕ × ℕ × ℕ). reply_number (hours van [] a.0 a.1 a.2 40)) ((0, 0, 1) ∷ (1, 1, 60000) ∷ (2, 1, 1) ∷ (0, 2, 1) ∷ (3, 1, 1) ∷ (0, -1, 1) ∷ (0, 1, 0) ∷ (0, 1, 60001) ∷ (0, 1, -1) ∷ [])
    ≡ 0 ∷ 0 ∷ 17 ∷ 17 ∷ 17 ∷ 17 ∷ 17 ∷ 17 ∷ 17 ∷ []
unfolding examples_opened
names_asked = refl

-- The circuit first, then 16, then 17, then 18.
in_order :
    (hours [] (bytes (stopped 2)) 9 9 0 0 ≡ refused 1) × (hours van (bytes (stopped 2)) 9 9 0 0 ≡ refused 16) × (hours van [] 9 9 0 0 ≡ refused 17) × (hours van [] 0 1 1 0 ≡ refused 18)
unfolding examples_opened
in_order = (refl, refl, refl, refl)

-- What is left: the report in front, the rest as it was, and how many bytes it has; after a refusal all as it was.
left_behind :
    let done = reported 6 [] in
    (buffer_after done (replicate 48 5) ≡ replicate 40 0 ++ replicate 8 5) × (told_after done (9 ∷ 9 ∷ []) ≡ 40 ∷ 9 ∷ []) × (told_after done [] ≡ [])
    × (buffer_after (reported 4 []) (5 ∷ []) ≡ 5 ∷ []) × (told_after (reported 4 []) (9 ∷ []) ≡ 9 ∷ [])
unfolding examples_opened
left_behind = (refl, refl, refl, refl, refl)
