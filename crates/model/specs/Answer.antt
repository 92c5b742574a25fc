-- What a call answers, from bytes, and what it leaves in the log and the areas.
use Rattle.std.specs.Prelude.{ℕ, zero, suc, ◌*◌, ◌≤◌, ◌≡◌, true, List, [], ◌∷◌, ◌++◌, ◌⊎◌, length, drop, replicate}
use Rattle.std.proofs.Math.Option.{none, some}
use Rattle.words.specs.Words.{words, bytes}
use Rattle.schedule.specs.Schedule.{schedule_opened}
use Rattle.model.specs.Base.{among, base_opened}
use Rattle.model.specs.Value.{value_opened}
use Rattle.model.specs.Kinds.{kinds_opened}
use Rattle.model.specs.Circuit.{Circuit, circuit, circuit_opened}
use Rattle.model.specs.Script.{script_opened}
use Rattle.model.specs.State.{state_opened}
use Rattle.model.specs.Wires.{wires_opened}
use Rattle.model.specs.Delays.{delays_opened}
use Rattle.model.specs.Exec.{exec_opened}
use Rattle.model.specs.Chain.{chain_opened}
use Rattle.model.specs.Loops.{loops_opened}
use Rattle.model.specs.Settle.{settle_opened}
use Rattle.model.specs.Opening.{opening_opened}
use Rattle.model.specs.Unit.{unit_opened}
use Rattle.model.specs.Record.{record_opened}
use Rattle.model.specs.Closing.{closing_opened}
use Rattle.model.specs.Run.{Played, ticks_get, ticks_of, seen, run_opened}
use Rattle.model.specs.Questions.{Areas, refusal, questions_opened}

-- refused with the number of a question, or played
pub data Answer : Type 0 where
  refused : ℕ → Answer
  played : Played → Answer

-- the run of a script over a circuit, with a log of so many bytes
unfoldable pub play : ℕ → Circuit → List ℕ → Played
play room c script_words = seen c (ticks_of c room (ticks_get c script_words))

-- by the number of the question that refuses it, 0 for none
unfoldable pub answer_to : ℕ → ℕ → List ℕ → List ℕ → Answer
answer_to zero room circuit_bytes script_bytes = played (play room (circuit (words circuit_bytes)) (words script_bytes))
answer_to (suc n) room circuit_bytes script_bytes = refused (suc n)

-- with areas of these lengths and a log of so many bytes
unfoldable pub answer : Areas → ℕ → List ℕ → List ℕ → Answer
answer areas room circuit_bytes script_bytes = answer_to (refusal (some areas) circuit_bytes script_bytes) room circuit_bytes script_bytes

-- what a call answers that only checks, and is lent no areas
unfoldable pub checked : List ℕ → List ℕ → ℕ
checked circuit_bytes script_bytes = refusal none circuit_bytes script_bytes

-- the number that is answered: the question's, or the stop, 0 for a run to the script's end
unfoldable pub number : Answer → ℕ
number (refused n) = n
number (played p) = p.stop

-- how many ticks were done
unfoldable pub ticks_done : Answer → ℕ
ticks_done (refused n) = 0
ticks_done (played p) = p.ticks

-- how many bytes of the log hold records
unfoldable pub log_bytes : Answer → ℕ
log_bytes (refused n) = 0
log_bytes (played p) = 8 * length p.log

-- What a call can answer: it is refused with 1 to 10 or 19, or played to the script's end, 0, or to a stop, 11, 12 or 13.
pub data Answers : Answer → Type 0 where
  is_refused : {n : ℕ} → 1 ≤ n → (n ≤ 10) ⊎ (n ≡ 19) → Answers (refused n)
  is_played : {p : Played} → among p.stop (0 ∷ 11 ∷ 12 ∷ 13 ∷ []) ≡ true → Answers (played p)

-- the log afterwards, where it held these bytes before: untouched by a refusal; else the records, and its rest untouched
unfoldable pub log_after : Answer → List ℕ → List ℕ
log_after (refused n) log = log
log_after (played p) log = bytes p.log ++ drop (8 * length p.log) log

-- an area afterwards: untouched by a refusal; else zero, all of it
unfoldable pub area_after : Answer → List ℕ → List ℕ
area_after (refused n) area = area
area_after (played p) area = replicate (length area) 0

-- opens the whole definition, for proofs by computation
unfoldable pub model_opened : ℕ
unfolding words bytes schedule_opened base_opened value_opened kinds_opened circuit_opened script_opened state_opened wires_opened delays_opened exec_opened chain_opened loops_opened settle_opened opening_opened unit_opened record_opened closing_opened run_opened questions_opened play answer_to answer checked number ticks_done log_bytes log_after area_after
model_opened = 0
