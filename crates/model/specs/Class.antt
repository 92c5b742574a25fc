-- A whole class in one call: the scripts of a book over one circuit, each with its part of the log (document 02, K1).
use Rattle.std.specs.Prelude.{ℕ, zero, suc, ◌≤◌, ◌≡◌, Bool, true, false, ◌||◌, List, [], ◌∷◌, map, length, replicate}
use Rattle.std.proofs.Math.Option.{some}
use Rattle.model.specs.Base.{if◌then◌otherwise◌, all, among}
use Rattle.model.specs.Questions.{Areas, circuit_refusal, or_else}
use Rattle.model.specs.Answer.{Answer, refused, played, answer, number}
use Rattle.model.specs.Book.{count, good_book, entries, part_of}
use Rattle.model.specs.Several.{Several, turned_away, answered}

-- the most scripts of a class
abbrev pub most_scripts : ℕ
most_scripts = 16

-- the number of a book that is none
abbrev pub no_book : ℕ
no_book = 15

-- the number that the whole call is refused with, or 0: the questions about the circuit, 1 to 7 and 19 among them, then 15
unfoldable pub class_refusal : Areas → List ℕ → List ℕ → ℕ
class_refusal areas circuit_bytes book = or_else (circuit_refusal (some areas) circuit_bytes) (if good_book most_scripts book then 0 otherwise no_book)

-- by that number; each script has the answer that it has alone, with its part as its log
unfoldable pub class_to : ℕ → Areas → ℕ → List ℕ → List ℕ → Several
class_to zero areas room circuit_bytes book = answered (map (answer areas (part_of (count book) room) circuit_bytes) (entries book))
class_to (suc n) areas room circuit_bytes book = turned_away (suc n)

-- with areas of these lengths and a log of so many bytes
unfoldable pub class : Areas → ℕ → List ℕ → List ℕ → Several
class areas room circuit_bytes book = class_to (class_refusal areas circuit_bytes book) areas room circuit_bytes book

-- ---- the areas

-- whether a script was played; one that stopped was
unfoldable pub was_played : Answer → Bool
was_played (refused n) = false
was_played (played p) = true

-- whether one of them was
unfoldable pub any_played : List Answer → Bool
any_played [] = false
any_played (a ∷ rs) = was_played a || any_played rs

-- an area afterwards: zero once a script has been played, else untouched
unfoldable pub class_area : Several → List ℕ → List ℕ
class_area (turned_away n) area = area
class_area (answered rs) area = if any_played rs then replicate (length area) 0 otherwise area

-- What a call can answer: it is refused as a whole with 1 to 7, 19 or 15, or has an answer for each of 1 to 16 scripts, which is refused with 8 to 10 or played, to its
-- end, 0, or to a stop, 11 to 13.
pub data ClassAnswers : Several → Type 0 where
  is_turned_away : {n : ℕ} → among n (1 ∷ 2 ∷ 3 ∷ 4 ∷ 5 ∷ 6 ∷ 7 ∷ 19 ∷ no_book ∷ []) ≡ true → ClassAnswers (turned_away n)
  is_answered :
      {rs : List Answer} → 1 ≤ length rs → length rs ≤ most_scripts → all (λ a. among (number a) (0 ∷ 8 ∷ 9 ∷ 10 ∷ 11 ∷ 12 ∷ 13 ∷ [])) rs ≡ true →
      ClassAnswers (answered rs)

unfoldable pub class_opened : ℕ
unfolding class_refusal class_to class was_played any_played class_area
class_opened = 0
