-- Small classes, played: a row for each sentence of document 02's K1.
use Rattle.std.specs.Prelude.{ℕ, ◌^◌, ◌-◌, ◌≡◌, refl, List, [], ◌∷◌, ◌++◌, map, take, drop, replicate}
use Rattle.words.specs.Words.{bytes}
use Rattle.model.specs.Questions.{Areas}
use Rattle.model.specs.Answer.{Answer, refused, played, model_opened}
use Rattle.model.specs.Book.{part_of, book_opened}
use Rattle.model.specs.Several.{Several, turned_away, answered, call_number, call_log, call_told, several_opened}
use Rattle.model.specs.Class.{class, class_area, class_opened}

-- ---- a circuit, and books of its scripts

-- the areas that a call is lent
abbrev lent : Areas
lent = record { values = 65536; units = 65536; delays = 65536 }

-- the word -1
abbrev -1 : ℕ
-1 = 2 ^ 64 - 1

-- document 01's first example: a WorldEvent calls a Toggle
unfoldable lamp : List ℕ
lamp = bytes (2 ∷ 1 ∷ 1 ∷ 1 ∷ 1 ∷ 7 ∷ 28 ∷ 22 ∷ 0 ∷ 1 ∷ -1 ∷ 0 ∷ 0 ∷ 0 ∷ [])

-- a script of one tick in which the event comes, and one of no tick
abbrev switched : List ℕ
switched = 1 ∷ 1 ∷ 4598175219545276416 ∷ 1 ∷ 0 ∷ 1 ∷ []

abbrev no_tick : List ℕ
no_tick = 0 ∷ 0 ∷ []

-- what it gives: the Toggle, off before, is on
abbrev lamp_on : Answer
lamp_on = played (record { log = 1 ∷ 1 ∷ 1 ∷ 0 ∷ 0 ∷ 0 ∷ 0 ∷ 0 ∷ 2 ∷ 0 ∷ 1 ∷ 0 ∷ 3 ∷ 0 ∷ 7 ∷ 0 ∷ 1 ∷ []; stop = 0; ticks = 1 })

-- its record has 136 bytes; a part that is smaller has no room for it
abbrev no_room : Answer
no_room = played (record { log = []; stop = 13; ticks = 0 })

-- Three spans: a script, one that leaves the book by eight bytes, and the first one's bytes again.
unfoldable three : List ℕ
three = bytes (3 ∷ 56 ∷ 64 ∷ 56 ∷ 48 ∷ 48 ∷ 48 ∷ switched)

-- what a call with this log of circuit `lamp` answers
unfoldable classed : ℕ → List ℕ → Several
classed room book = class lent room lamp book

unfoldable classes_opened : ℕ
unfolding model_opened book_opened several_opened class_opened lamp three classed
classes_opened = 0

-- ---- the rows

-- A log of 428 bytes has three parts of 136, which a record fills. The third script gives what the first gives: the Toggle is off again when it begins, and the
-- refused one between them changes nothing.
plays_each_alone : classed 428 three ≡ answered (lamp_on ∷ refused 8 ∷ lamp_on ∷ [])
unfolding classes_opened
plays_each_alone = refl

-- One of 407 bytes has parts of 128: a record does not fit.
stops_each_alone : classed 407 three ≡ answered (no_room ∷ refused 8 ∷ no_room ∷ [])
unfolding classes_opened
stops_each_alone = refl

-- Whole words, as many as each part can have.
rounded_down : (part_of 3 428 ≡ 136) × (part_of 3 407 ≡ 128) × (part_of 1 17 ≡ 16) × (part_of 16 127 ≡ 0)
unfolding part_of
rounded_down = (refl, refl, refl, refl)

-- The first record stands in the first part, the next in the third; the second part and what lies behind the three stay.
parts_in_the_log :
    let log = call_log (classed 428 three) (part_of 3 428) (replicate 428 5) in
    (take 16 log ≡ bytes (1 ∷ 1 ∷ [])) × (take 136 (drop 136 log) ≡ replicate 136 5) × (take 16 (drop 272 log) ≡ bytes (1 ∷ 1 ∷ [])) × (drop 408 log ≡ replicate 20 5)
unfolding classes_opened
parts_in_the_log = (refl, refl, refl, refl)

-- Three words of each script, as far as there is room; one that is lent more keeps the rest.
told_in_threes :
    (call_told (classed 428 three) (replicate 8 9) ≡ 0 ∷ 1 ∷ 136 ∷ 8 ∷ 0 ∷ 0 ∷ 0 ∷ 1 ∷ [])
    × (call_told (classed 428 three) (replicate 10 9) ≡ 0 ∷ 1 ∷ 136 ∷ 8 ∷ 0 ∷ 0 ∷ 0 ∷ 1 ∷ 136 ∷ 9 ∷ [])
unfolding classes_opened
told_in_threes = (refl, refl)

-- A span counts from the book's first byte and lies at any byte. It may lie over the arrays: the second script is the two starts, which are none.
unfoldable anywhere : List ℕ
anywhere = bytes (2 ∷ 43 ∷ 8 ∷ 48 ∷ 16 ∷ []) ++ (7 ∷ 7 ∷ 7 ∷ []) ++ bytes switched

spans_anywhere : classed 272 anywhere ≡ answered (lamp_on ∷ refused 8 ∷ [])
unfolding classes_opened anywhere
spans_anywhere = refl

-- A span that would be a script if it were cut at the book's end leaves it, and so do two whose start and length, added in 64 bits, would come to 8 and to 24. One of no
-- bytes at the book's end does not leave it, and is refused like any script of no bytes.
leave_the_book :
    map (λ s. classed 428 (bytes (1 ∷ s ++ switched))) ((24 ∷ 56 ∷ []) ∷ (24 ∷ (2 ^ 64 - 16) ∷ []) ∷ ((2 ^ 64 - 48) ∷ 72 ∷ []) ∷ (72 ∷ 0 ∷ []) ∷ [])
    ≡ replicate 4 (answered (refused 8 ∷ []))
unfolding classes_opened
leave_the_book = refl

-- Counts from 1 to 16.
counts : map (λ n. call_number (classed 0 (bytes (n ∷ replicate 34 0)))) (0 ∷ 1 ∷ 16 ∷ 17 ∷ -1 ∷ []) ≡ 15 ∷ 0 ∷ 0 ∷ 15 ∷ 15 ∷ []
unfolding classes_opened
counts = refl

-- Arrays that just fit the book, that leave it by a byte, and a book without a whole count.
arrays_fit : map (λ b. call_number (classed 0 b)) (bytes (1 ∷ 0 ∷ 0 ∷ []) ∷ take 23 (bytes (1 ∷ 0 ∷ 0 ∷ [])) ∷ (1 ∷ 0 ∷ []) ∷ []) ≡ 0 ∷ 15 ∷ 15 ∷ []
unfolding classes_opened
arrays_fit = refl

-- The circuit is asked first, its areas too.
circuit_first : (class lent 0 [] [] ≡ turned_away 1) × (class (record { values = 65535; units = 65536; delays = 65536 }) 0 lamp [] ≡ turned_away 7)
unfolding classes_opened
circuit_first = (refl, refl)

-- The areas are zero once a script was played, be it one of no tick or one that stopped; where all are refused, or the call is, they stay.
areas_after :
    map (λ a. class_area a (5 ∷ 6 ∷ [])) (classed 428 three ∷ classed 0 three ∷ classed 0 (bytes (1 ∷ 24 ∷ 16 ∷ no_tick)) ∷ classed 428 (bytes (1 ∷ 24 ∷ 1 ∷ [])) ∷ classed 428 [] ∷ [])
    ≡ (0 ∷ 0 ∷ [])
    ∷ (0 ∷ 0 ∷ [])
    ∷ (0 ∷ 0 ∷ [])
    ∷ (5 ∷ 6 ∷ [])
    ∷ (5 ∷ 6 ∷ [])
    ∷ []
unfolding classes_opened
areas_after = refl
