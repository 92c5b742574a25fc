-- The records of a log, one behind the other.
use Rattle.std.specs.Prelude.{ℕ, zero, suc, true, false, List, [], ◌∷◌, map, eqb, length, get_or, drop}
use Rattle.words.specs.Words.{words}
use Rattle.model.specs.declared.Value.{Value}
use Rattle.model.specs.declared.Value.TheVariants.{Nothing}
use Rattle.model.specs.Base.{keep, joined}
use Rattle.model.specs.Circuit.{Circuit}
use Rattle.model.specs.Record.{LogRecord, record_words, record_size, record_at}
use Rattle.model.specs.Script.{most_ticks}

-- the records that words are, at most so many, in a log of a circuit with so many outputs
unfoldable pub records_in : ℕ → ℕ → List ℕ → List LogRecord
records_in outputs zero ws = []
records_in outputs (suc left) ws = elim (eqb (length ws) 0) [ true ↦ [] | false ↦ record_at outputs ws ∷ records_in outputs left (drop (record_size outputs ws) ws) ]

-- the records of a log
unfoldable pub records : Circuit → List ℕ → List LogRecord
records c log = records_in (length c.outputs) most_ticks (words log)

-- the words of records
unfoldable pub log_words : List LogRecord → List ℕ
log_words rs = joined (map record_words rs)

-- ---- what readers ask of a record

-- the ticks read: a stopped record is none
unfoldable pub ticks_read : List LogRecord → List LogRecord
ticks_read rs = keep (λ r. eqb r.stop 0) rs

-- what output o shows in a record
unfoldable pub shown_in : ℕ → LogRecord → Value
shown_in o r = get_or r.outs o Nothing

unfoldable pub records_opened : ℕ
unfolding records_in records log_words ticks_read shown_in
records_opened = 0
