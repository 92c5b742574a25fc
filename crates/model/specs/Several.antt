-- A call with several answers: what it leaves in a log that is cut into parts, and what it tells.
use Rattle.std.specs.Prelude.{ℕ, List, [], ◌∷◌, ◌++◌, map, length, take, drop}
use Rattle.model.specs.Base.{joined}
use Rattle.model.specs.Answer.{Answer, number, ticks_done, log_bytes, log_after}

-- the whole call is refused with a number, or each of several has its answer
pub data Several : Type 0 where
  turned_away : ℕ → Several
  answered : List Answer → Several

-- the number that the call answers: 0 where each has its own
unfoldable pub call_number : Several → ℕ
call_number (turned_away n) = n
call_number (answered rs) = 0

-- the parts of a log, each as its answer leaves it, and what lies behind them
unfoldable pub parts_after : ℕ → List Answer → List ℕ → List ℕ
parts_after size [] log = log
parts_after size (a ∷ rs) log = log_after a (take size log) ++ parts_after size rs (drop size log)

-- the log afterwards, where each part has so many bytes
unfoldable pub call_log : Several → ℕ → List ℕ → List ℕ
call_log (turned_away n) size log = log
call_log (answered rs) size log = parts_after size rs log

-- the three words that are told of an answer: its number, the ticks done, the bytes that hold records
unfoldable pub told_of : Answer → List ℕ
told_of a = number a ∷ ticks_done a ∷ log_bytes a ∷ []

-- these words over the first of those that were there, as far as there is room
unfoldable pub over : List ℕ → List ℕ → List ℕ
over new old = take (length old) (new ++ drop (length new) old)

-- the words lent for what is told, afterwards
unfoldable pub call_told : Several → List ℕ → List ℕ
call_told (turned_away n) told = told
call_told (answered rs) told = over (joined (map told_of rs)) told

unfoldable pub several_opened : ℕ
unfolding call_number parts_after call_log told_of over call_told
several_opened = 0
