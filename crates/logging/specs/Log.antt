-- The record of a tick by what the areas hold, and the log after it.
use Rattle.std.specs.Prelude.{ℕ, ◌+◌, ◌≡◌, Bool, true, false, Option, Some, None, List, [], ◌++◌, leb, eqb, length, take, drop}
use Rattle.words.specs.Words.{words, tail}
use Rattle.model.specs.declared.Value.{Value}
use Rattle.model.specs.Base.{if◌then◌otherwise◌}
use Rattle.model.specs.Record.{Listed, LogRecord}
use Rattle.logging.specs.declared.Head.{Head}

-- the record with this head, of the units begun and carried and of what the outputs show; a stopped tick shows none
unfoldable pub record_of : Head → List Listed → List Listed → List Value → LogRecord
record_of h begun carried outs =
    record {
      tick = h.tick;
      steps = h.steps;
      late = take h.late begun;
      main = drop h.late begun;
      carried = carried;
      stop = h.stop;
      changed = h.changed;
      outs = if eqb h.stop 0 then outs otherwise [];
    }

-- whether a record fits behind the first `at` words of a log
unfoldable pub fits : List ℕ → ℕ → List ℕ → Bool
fits log at rs = leb (at + length rs) (length (words log))

-- how many words were written, or none
unfoldable pub written_as : Bool → List ℕ → Option ℕ
written_as true rs = Some (length rs)
written_as false rs = None

-- The log became `after`: the record stands behind the first `at` words if it fits; all else is as it was.
pub record Writes (before after : List ℕ) (at : ℕ) (rs : List ℕ) : Type 0 where
  pub words : words after ≡ (if fits before at rs then take at (words before) ++ rs ++ drop (at + length rs) (words before) otherwise words before)
  pub tail : tail after ≡ tail before
