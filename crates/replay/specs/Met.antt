-- What the definition makes of a run, held against what is due of it.
use Rattle.std.specs.Prelude.{ℕ, Bool, List}
use Rattle.model.specs.Answer.{log_after, area_after}
use Rattle.model.specs.Answer as model
use Rattle.run.specs.Call.{Call, call_answer}
use Rattle.run.specs.Told.{told}
use Rattle.replay.specs.declared.due.Due.{Due}
use Rattle.replay.specs.Due.{as_due}

-- the call that is made
abbrev pub called : (circuit script log vs us ds : List ℕ) → Call
called circuit script log vs us ds = record { circuit = circuit; script = script; log = log; values = vs; units = us; delays = ds }

-- an answer of the definition, and what it leaves of this log and these areas, are as they are due
abbrev pub left_as_due : Due → List ℕ → model.Answer → (log vs us ds : List ℕ) → Bool
left_as_due d records a log vs us ds = as_due d (told a) records 165 (log_after a log) (area_after a vs) (area_after a us) (area_after a ds)

-- so is the definition's answer to this circuit and script, where this log and these areas are lent
unfoldable pub met : Due → (circuit script records log vs us ds : List ℕ) → Bool
met d circuit script records log vs us ds = left_as_due d records (call_answer (called circuit script log vs us ds)) log vs us ds
