-- A class of the packed ones, and what is due of it.
use Rattle.std.specs.Prelude.{ℕ, Bool, ◌&&◌, List, ◌==◌, slice_index}
use Rattle.model.specs.Base.{if◌then◌otherwise◌}
use Rattle.replay.specs.declared.class_due.ClassDue.{ClassDue}
use Rattle.replay.specs.Bytes.{all_alike, answered}

-- its numbers, from the words before its circuit
unfoldable pub class_due_of : List ℕ → ClassDue
class_due_of ws =
    record { log = slice_index ws 0; values = slice_index ws 1; units = slice_index ws 2; delays = slice_index ws 3; told = slice_index ws 4; number = slice_index ws 5; cleared = slice_index ws 6; circuit = slice_index ws 7; book = slice_index ws 8; words = slice_index ws 9; part = slice_index ws 10; parts = slice_index ws 11 }

-- every byte of the areas afterwards: zero, or what they were filled with
unfoldable pub area_byte : ClassDue → ℕ
area_byte d = if d.cleared == 0 then 165 otherwise 0

-- all of it: the call's number, the log, the words told and the areas
unfoldable pub class_as_due : ClassDue → ℕ → (records words log vs us ds told : List ℕ) → Bool
class_as_due d n records words log vs us ds told = answered n d.number log records told words && all_alike (area_byte d) vs us ds
