-- What the definition makes of a class, held against what is due of it.
use Rattle.std.specs.Prelude.{ℕ, Bool, List}
use Rattle.model.specs.Several.{Several, call_number, call_log, call_told}
use Rattle.model.specs.Class.{class_area}
use Rattle.class.specs.Call.{Call, class_answer, part_size}
use Rattle.replay.specs.declared.class_due.ClassDue.{ClassDue}
use Rattle.replay.specs.ClassDue.{class_as_due}

-- the call that is made
abbrev pub class_called : (circuit book log vs us ds told : List ℕ) → Call
class_called circuit book log vs us ds told = record { circuit = circuit; book = book; log = log; values = vs; units = us; delays = ds; told = told }

-- an answer of the definition, and what it leaves of this log, these areas and these words, are as they are due
abbrev pub class_left_as_due : ClassDue → (records words : List ℕ) → Several → ℕ → (log vs us ds told : List ℕ) → Bool
class_left_as_due d records words a size log vs us ds told =
    class_as_due d (call_number a) records words (call_log a size log) (class_area a vs) (class_area a us) (class_area a ds) (call_told a told)

-- so is what it makes of a call
abbrev pub class_call_met : ClassDue → (records words : List ℕ) → Call → Bool
class_call_met d records words k =
    class_left_as_due d records words (class_answer k) (part_size k) k.log k.values k.units k.delays k.told

-- so is its answer to this circuit and book, where this log, these areas and these words are lent
unfoldable pub class_met : ClassDue → (circuit book records words log vs us ds told : List ℕ) → Bool
class_met d circuit book records words log vs us ds told = class_call_met d records words (class_called circuit book log vs us ds told)
