-- A call: the bytes that it is lent, what it leaves of them, and what is right of it: the three demands, and what documents 01 and 02 promise of its run.
use Rattle.std.specs.Prelude.{ℕ, ◌≡◌, List, length}
use Rattle.std.proofs.Math.Option.{some}
use Rattle.words.specs.Slices.{Slice, before, after}
use Rattle.words.specs.Words.{words}
use Rattle.model.specs.Circuit.{circuit as circuit_of}
use Rattle.model.specs.Questions.{Areas, circuit_refusal}
use Rattle.model.specs.Answer.{Answer, answer, log_after, area_after}
use Rattle.promises.specs.Promises.{Promised}
use Rattle.links.specs.Links.{net}

-- the bytes that a call is lent, as they are when it is made
pub record Call : Type 0 where
  pub circuit : List ℕ
  pub script : List ℕ
  pub log : List ℕ
  pub values : List ℕ
  pub units : List ℕ
  pub delays : List ℕ

-- those that it may write, as it leaves them
pub record Left : Type 0 where
  pub log : List ℕ
  pub values : List ℕ
  pub units : List ℕ
  pub delays : List ℕ

-- the lengths of its areas
abbrev pub lent : Call → Areas
lent k = record { values = length k.values; units = length k.units; delays = length k.delays }

-- what the definition answers
abbrev pub call_answer : Call → Answer
call_answer k = answer (lent k) (length k.log) k.circuit k.script

-- What is right of a call k that left l, whatever bytes it was lent; `Tells` is what it tells of the answer.
pub record Right (k : Call) (l : Left) (Tells : Answer → Type 0) : Type 0 where
  -- demands 1 and 2: it ends, and tells of the definition's answer
  pub answer : Tells (call_answer k)
  -- demands 1 and 2: after a refusal the log is untouched, else it holds the definition's records, and its rest is untouched
  pub log : l.log ≡ log_after (call_answer k) k.log
  -- demand 1: after a refusal an area is untouched, else it is zero
  pub values : l.values ≡ area_after (call_answer k) k.values
  pub units : l.units ≡ area_after (call_answer k) k.units
  pub delays : l.delays ≡ area_after (call_answer k) k.delays
  -- demands 1 and 3, and document 02, K2, K3 and K13: which numbers are answered, and what holds of the whole run
  pub promised : Promised (lent k) (length k.log) k.circuit k.script

-- the same of a contract's slices
abbrev pub RightCall : List ℕ → List ℕ → Slice → Slice → Slice → Slice → (Answer → Type 0) → Type 0
RightCall circuit script log values units delays Tells =
    Right
    (record {
      circuit = circuit;
      script = script;
      log = before log;
      values = before values;
      units = before units;
      delays = before delays;
    })
    (record { log = after log; values = after values; units = after units; delays = after delays })
    Tells

-- Links and areas with which scripts can be played over the circuit: the links show it, and it is not refused with areas of these lengths.
abbrev pub Ready : List ℕ → List ℕ → List ℕ → List ℕ → List ℕ → Type 0
Ready links circuit vs us ds =
    (net links ≡ circuit_of (words circuit))
    × (circuit_refusal (some (record { values = length vs; units = length us; delays = length ds })) circuit ≡ 0)
