-- What the definition makes of a size, held against what is due of it.
use Rattle.std.specs.Prelude.{ℕ, Bool, List}
use Rattle.figures.specs.Figures.{Size, size, size_number, size_told}
use Rattle.asked.specs.declared.size_due.SizeDue.{SizeDue}
use Rattle.asked.specs.SizeDue.{size_as_due}

-- an answer of the definition, and what it leaves of these words, are as they are due
abbrev pub size_left_as_due : SizeDue → (words : List ℕ) → Size → (told : List ℕ) → Bool
size_left_as_due d words a told = size_as_due d (size_number a) (size_told a told) words

-- so is its answer to this circuit and these ticks, where these words are lent
unfoldable pub size_met : SizeDue → (circuit words told : List ℕ) → Bool
size_met d circuit words told = size_left_as_due d words (size circuit d.ticks) told
