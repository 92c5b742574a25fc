-- A call for the two figures: what is right of it.
use Rattle.std.specs.Prelude.{ℕ, ◌≡◌, true, List, [], ◌∷◌}
use Rattle.words.specs.Words.{words}
use Rattle.model.specs.Base.{among}
use Rattle.model.specs.Circuit.{circuit as circuit_of}
use Rattle.figures.specs.Figures.{size, size_number, size_told}
use Rattle.figures.specs.Adding.{AddsUp}
use Rattle.figures.specs.Within.{NoRunExceeds}

-- the numbers that there are: both figures, 0, the circuit's own refusals, 23 and 24
abbrev pub numbers : List ℕ
numbers = 0 ∷ 1 ∷ 2 ∷ 3 ∷ 4 ∷ 5 ∷ 6 ∷ 7 ∷ 19 ∷ 23 ∷ 24 ∷ []

-- What is right of a call, whatever bytes it was lent, that answered r and left these words told (document 02, K12).
pub record Right (circuit : List ℕ) (ticks : ℕ) (told left : List ℕ) (r : ℕ) : Type 0 where
  -- it ends, and answers the definition's number
  pub number : r ≡ size_number (size circuit ticks)
  -- the first two words, as far as there is room, are the figures; where it is refused, all stays
  pub told_words : left ≡ size_told (size circuit ticks) told
  -- which numbers there are
  pub numbers : among (size_number (size circuit ticks)) numbers ≡ true
  -- what the steps of a gate are, and that 23 is a ring or a Loop
  pub adds_up : AddsUp (circuit_of (words circuit))
  -- no run of the circuit, whatever its script, exceeds either figure
  pub within : NoRunExceeds circuit ticks
