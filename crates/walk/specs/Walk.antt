-- A record of a log, found at word `at` of its bytes.
use Rattle.std.specs.Prelude.{ℕ, ◌+◌, ◌*◌, ◌/◌, ◌≤◌, ◌≡◌, true, List, length, get_or, drop}
use Rattle.words.specs.Words.{words}
use Rattle.schedule.specs.Schedule.{most_units, most_waiting}
use Rattle.model.specs.declared.Value.{Value}
use Rattle.model.specs.Value.{value_of}
use Rattle.model.specs.Circuit.{Circuit}
use Rattle.model.specs.Record.{begun_count, carried_count, shown_at, record_size}
use Rattle.records.specs.Whole.{whole}

-- Its units are within document 01's limits, and it stands in the log up to where its outputs begin.
pub record Stands (log : List ℕ) (at : ℕ) : Type 0 where
  pub begun : begun_count (drop at (words log)) ≤ most_units
  pub carried : carried_count (drop at (words log)) ≤ most_waiting
  pub room : (at + shown_at (drop at (words log))) * 8 ≤ length log

-- It stands there to its end, in a log of a circuit with so many outputs.
pub record Fits (outs : ℕ) (log : List ℕ) (at : ℕ) : Type 0 where
  pub stands : Stands log at
  pub room : at + record_size outs (drop at (words log)) ≤ length log / 8

-- A log of whole records of some circuit with so many outputs.
pub record WholeLog (outs : ℕ) (log : List ℕ) : Type 0 where
  pub circuit : Circuit
  pub outputs : outs ≡ length circuit.outputs
  pub whole : whole circuit log ≡ true

-- what output o of so many shows in the two rows that begin at word k
unfoldable pub shown_there : List ℕ → ℕ → ℕ → ℕ → Value
shown_there log outs k o = value_of (get_or (words log) (k + o) 0) (get_or (words log) (k + outs + o) 0)
