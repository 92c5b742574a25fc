-- A case of the packed questions.
use Rattle.std.specs.Prelude.{ℕ, Bool, ◌&&◌, List, ◌==◌, slice_index}
use Rattle.std.proofs.Math.Option.{none, some}
use Rattle.model.specs.Questions.{Areas, refusal}
use Rattle.asked.specs.declared.case.Case.{Case}
use Rattle.asked.specs.declared.case.Answers.{Answers}

-- its numbers, from the words before its circuit
unfoldable pub case_of : List ℕ → Case
case_of ws =
    record { check = slice_index ws 0; refusal = slice_index ws 1; values = slice_index ws 2; units = slice_index ws 3; delays = slice_index ws 4; circuit = slice_index ws 5 }

-- the lengths lent
unfoldable pub areas_of : Case → Areas
areas_of c = record { values = c.values; units = c.units; delays = c.delays }

-- what `check` and `refusal` answer to a circuit and a script, by the definition of the questions
unfoldable pub answers : Case → List ℕ → List ℕ → Answers
answers c circuit script = record { check = refusal none circuit script; refusal = refusal (some (areas_of c)) circuit script }

-- both answers are as they should be
unfoldable pub right : Case → Answers → Bool
right c a = a.check == c.check && a.refusal == c.refusal
