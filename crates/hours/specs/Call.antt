-- A call for the hours per driver: what it is lent, what it leaves, and what is right of it.
use Rattle.std.specs.Prelude.{ℕ, ◌*◌, ◌≡◌, true, List, [], ◌∷◌, map, length, Option, Some, None}
use Rattle.words.specs.Words.{words}
use Rattle.model.specs.Base.{among, sum}
use Rattle.model.specs.Circuit.{circuit as circuit_of}
use Rattle.model.specs.Record.{LogRecord}
use Rattle.records.specs.Records.{records, ticks_read}
use Rattle.records.specs.Reply.{Reply, refused, writes, reply_number, buffer_after, told_after}
use Rattle.hours.specs.Hours.{Line, shares, report, hours}

-- the bytes that it is lent, as they are when it is made, the outputs and the length that are named, and the words for what is told
pub record Call : Type 0 where
  pub circuit : List ℕ
  pub log : List ℕ
  pub driver : ℕ
  pub activity : ℕ
  pub len : ℕ
  pub report : List ℕ
  pub told : List ℕ

-- what it may write, as it leaves it
pub record Left : Type 0 where
  pub report : List ℕ
  pub told : List ℕ

-- what the definition answers
abbrev pub hours_answer : Call → Reply
hours_answer k = hours k.circuit k.log k.driver k.activity k.len (length k.report)

-- how many bytes are written, where there is a report
unfoldable pub reply_size : Reply → Option ℕ
reply_size (refused n) = None
reply_size (writes new) = Some (length new)

-- What is done with an answer: its bytes are written, and r tells how many they are.
pub record Written (a : Reply) (old new : List ℕ) (r : Option ℕ) : Type 0 where
  pub size : r ≡ reply_size a
  pub buffer : new ≡ buffer_after a old

-- the milliseconds of some lines
unfoldable pub total : List Line → ℕ
total ls = sum (map (λ l. l.milliseconds) ls)

-- The milliseconds of all lines add up to the ticks read times the tick length.
abbrev pub AddsUp : ℕ → ℕ → ℕ → List LogRecord → Type 0
AddsUp driver activity len rs = total (report len (shares driver activity rs)) ≡ length (ticks_read rs) * len

-- the numbers that there are: a report, 0, the circuit's own refusals, 16, 17 and 18
abbrev pub numbers : List ℕ
numbers = 0 ∷ 1 ∷ 2 ∷ 3 ∷ 4 ∷ 5 ∷ 6 ∷ 7 ∷ 16 ∷ 17 ∷ 18 ∷ 19 ∷ []

-- What is right of a call k that answered r and left l, whatever bytes it was lent (document 02, K3).
pub record Right (k : Call) (l : Left) (r : ℕ) : Type 0 where
  -- it ends, and answers the definition's number
  pub number : r ≡ reply_number (hours_answer k)
  -- the report comes first, and past it the buffer is untouched; where it is refused, all of it
  pub report : l.report ≡ buffer_after (hours_answer k) k.report
  -- the first word, if there is one, is how many bytes the report has; where it is refused, all stays
  pub told : l.told ≡ told_after (hours_answer k) k.told
  -- which numbers there are
  pub numbers : among (reply_number (hours_answer k)) numbers ≡ true
  -- no millisecond is lost
  pub adds_up : AddsUp k.driver k.activity k.len (records (circuit_of (words k.circuit)) k.log)

-- ---- of a contract's slices

abbrev pub call_of : List ℕ → List ℕ → ℕ → ℕ → ℕ → List ℕ → List ℕ → Call
call_of circuit log driver activity len report told =
    record {
      circuit = circuit;
      log = log;
      driver = driver;
      activity = activity;
      len = len;
      report = report;
      told = told;
    }

abbrev pub left_of : List ℕ → List ℕ → Left
left_of report told = record { report = report; told = told }
