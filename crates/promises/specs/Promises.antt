-- What is promised of a call, whatever bytes it is lent: theorems about the definition, to which the equations of a contract tie the code.
use Rattle.std.specs.Prelude.{ℕ, ◌≡◌, List}
use Rattle.std.proofs.Math.Option.{some}
use Rattle.words.specs.Words.{words}
use Rattle.model.specs.Circuit.{circuit}
use Rattle.model.specs.Questions.{Areas, refusal}
use Rattle.model.specs.Answer.{Answers, answer}
use Rattle.model.specs.Order.{WholeRunInOrder}
use Rattle.model.specs.Fresh.{WholeRunFresh}
use Rattle.model.specs.Noticed.{StartNoticed}
use Rattle.promises.specs.Logged.{LogWhole}

-- with areas of these lengths, a log of so many bytes, and the bytes of a circuit and a script
pub record Promised (areas : Areas) (room : ℕ) (circuit_bytes script_bytes : List ℕ) : Type 0 where
  -- demand 1: the answer is a refusal, 1 to 10 or 19, a finished run, 0, or a stop, 11 to 13
  pub numbers : Answers (answer areas room circuit_bytes script_bytes)
  -- demand 3: where it is not refused, the whole run is in order, and each record shows its units, begun and carried (document 02, K4)
  pub order : refusal (some areas) circuit_bytes script_bytes ≡ 0 → WholeRunInOrder areas room circuit_bytes script_bytes
  -- document 02, K13: where it is not refused, no unit of the run reads, when it begins, a value left from before
  pub begins_fresh : refusal (some areas) circuit_bytes script_bytes ≡ 0 → WholeRunFresh room circuit_bytes script_bytes
  -- document 02, K2: where it is not refused, every watched input waits from the start and is read as tick 1 opens, as a change, and what this raises begins in its main pass
  pub notices : refusal (some areas) circuit_bytes script_bytes ≡ 0 → StartNoticed (circuit (words circuit_bytes))
  -- document 02, K3: where it is played, its log is whole records of the circuit, which no reader refuses with 16
  pub whole : LogWhole areas room circuit_bytes script_bytes
