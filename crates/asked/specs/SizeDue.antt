-- A size of the packed ones, and what is due of it.
use Rattle.std.specs.Prelude.{ℕ, Bool, ◌&&◌, List, ◌==◌, slice_index}
use Rattle.packed.specs.Same.{same}
use Rattle.asked.specs.declared.size_due.SizeDue.{SizeDue}

-- its numbers, from the words before its circuit
unfoldable pub size_due_of : List ℕ → SizeDue
size_due_of ws =
    record { ticks = slice_index ws 0; told = slice_index ws 1; number = slice_index ws 2; steps = slice_index ws 3; bytes = slice_index ws 4; circuit = slice_index ws 5 }

-- the call's number, and the words told
unfoldable pub size_as_due : SizeDue → ℕ → (told words : List ℕ) → Bool
size_as_due d n told words = n == d.number && same told words
