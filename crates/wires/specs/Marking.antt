-- What the functions that mark know of the area: beside the wires, the stack of outputs whose readers are still to be marked, and whether that is for a late check.
use Rattle.std.specs.Prelude.{ℕ, suc, ◌+◌, Bool, true, false, List, [], ◌∷◌, length, slice_index}
use Rattle.words.specs.Words.{words}
use Rattle.words.specs.Tables.{marked, stack}
use Rattle.model.specs.Circuit.{Circuit}
use Rattle.model.specs.State.{Wires}
use Rattle.model.specs.Wires.{Marking}
use Rattle.wires.specs.View.{cut, Values, with_wires, values}

-- what the area holds, the places of the stack, and whether marking is for a late check
pub record Area : Type 0 where
  pub values : Values
  pub stack : List ℕ
  pub late : Bool

-- the wires change, and nothing else
abbrev pub area_with : Area → Wires → Area
area_with a w = record { values = with_wires a.values w; stack = a.stack; late = a.late }

-- what marking is for changes, and nothing else
abbrev pub area_for : Area → Bool → Area
area_for a late = record { values = a.values; stack = a.stack; late = late }

-- of the area's bytes
unfoldable pub area : Circuit → List ℕ → Area
area c bs = record { values = values c bs; stack = (cut (words bs)).stack; late = marked (slice_index (cut (words bs)).marking_late 0) }

-- marking under way, and what lies behind the tables
pub record Marked : Type 0 where
  pub marking : Marking
  pub rest : List ℕ

-- the marking goes on, and nothing else changes
abbrev pub with_marking : Marked → Marking → Marked
with_marking m k = record { marking = k; rest = m.rest }

-- of the area's bytes, where n outputs are on the stack
unfoldable pub marking : Circuit → List ℕ → ℕ → Marked
marking c bs n =
    record { marking = record { wires = (area c bs).values.wires; work = stack n (area c bs).stack; late = (area c bs).late }; rest = (area c bs).values.rest }

-- how many gates are not stale
unfoldable pub cleans : List Bool → ℕ
cleans [] = 0
cleans (true ∷ bs) = cleans bs
cleans (false ∷ bs) = suc (cleans bs)

-- what marking may still have to do: a round for each output found, and for each gate that may still be found
unfoldable pub to_do : Marking → ℕ
to_do m = cleans m.wires.dirty + length m.work
