-- What is promised of the log of every run, to those who read it: it is whole records of its circuit, so no reader refuses it with 16.
use Rattle.std.specs.Prelude.{ℕ, ◌≤◌, ◌<◌, ◌≡◌, true, List, get_or}
use Rattle.std.proofs.Math.Option.{some}
use Rattle.words.specs.Words.{words, bytes}
use Rattle.model.specs.Circuit.{Circuit, circuit}
use Rattle.model.specs.Run.{Played, most_steps, gets, ticks_of, seen}
use Rattle.model.specs.Questions.{Areas, refusal}
use Rattle.model.specs.Answer.{played, answer}
use Rattle.records.specs.Whole.{whole, log_refusal}
use Rattle.records.specs.Records.{records}
use Rattle.records.specs.Good.{GoodLog}

-- The bytes of a log are whole records of the circuit, and each record that is read in them is good by its parts, from tick 1 on.
pub record WholeRecords (c : Circuit) (log : List ℕ) : Type 0 where
  pub whole : whole c log ≡ true
  pub good : GoodLog c 1 (records c log)

-- what is asked of the circuit and the script of a call: each number is a byte
abbrev pub Bytes : List ℕ → Type 0
Bytes s = (i : ℕ) → get_or s i 0 < 256

-- Whatever a call answers, with areas of these lengths and a log of so many bytes: if it was played, no reader refuses its log.
abbrev pub LogWhole : Areas → ℕ → List ℕ → List ℕ → Type 0
LogWhole areas room cb sb =
    (p : Played) → Bytes cb → Bytes sb → answer areas room cb sb ≡ played p → (log_refusal cb (bytes p.log) ≡ 0) × WholeRecords (circuit (words cb)) (bytes p.log)

abbrev pub EveryLogWhole : Type 0
EveryLogWhole = (areas : Areas) (room : ℕ) (cb sb : List ℕ) → LogWhole areas room cb sb

-- So of a run whose ticks may make `limit` steps each, any number up to document 01's.
abbrev pub EveryLimitedLogWhole : Type 0
EveryLimitedLogWhole =
    (areas : Areas) (room limit : ℕ) (cb sb : List ℕ) → Bytes cb → Bytes sb → limit ≤ most_steps → refusal (some areas) cb sb ≡ 0 →
    let c = circuit (words cb) in WholeRecords c (bytes (seen c (ticks_of c room (gets c limit (words sb)))).log)
