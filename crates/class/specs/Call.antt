-- A class: the bytes that a call is lent, what it leaves of them, and what is right of it.
use Rattle.std.specs.Prelude.{ℕ, ◌<◌, ◌≡◌, List, length}
use Rattle.model.specs.Questions.{Areas}
use Rattle.model.specs.Book.{count, entry, part_of}
use Rattle.model.specs.Several.{Several, call_number, call_log, call_told}
use Rattle.model.specs.Class.{class, class_area, ClassAnswers}
use Rattle.promises.specs.Promises.{Promised}

-- the bytes that a call is lent, and the words for what is told, as they are when it is made
pub record Call : Type 0 where
  pub circuit : List ℕ
  pub book : List ℕ
  pub log : List ℕ
  pub values : List ℕ
  pub units : List ℕ
  pub delays : List ℕ
  pub told : List ℕ

-- those that it may write, as it leaves them
pub record Left : Type 0 where
  pub log : List ℕ
  pub values : List ℕ
  pub units : List ℕ
  pub delays : List ℕ
  pub told : List ℕ

-- the lengths of its areas
abbrev pub lent : Call → Areas
lent k = record { values = length k.values; units = length k.units; delays = length k.delays }

-- the bytes of each script's part of the log
abbrev pub part_size : Call → ℕ
part_size k = part_of (count k.book) (length k.log)

-- what the definition answers
abbrev pub class_answer : Call → Several
class_answer k = class (lent k) (length k.log) k.circuit k.book

-- What is right of a call k that answered r and left l, whatever bytes it was lent (document 02, K1).
pub record Right (k : Call) (l : Left) (r : ℕ) : Type 0 where
  -- it ends, and answers the definition's number: of the whole call, or 0 where each script has an answer of its own
  pub number : r ≡ call_number (class_answer k)
  -- three words of each script: its number, the ticks done, the bytes of its part that hold records
  pub told : l.told ≡ call_told (class_answer k) k.told
  -- each part is what its script alone leaves in it; what lies behind the parts stays
  pub log : l.log ≡ call_log (class_answer k) (part_size k) k.log
  -- an area is zero once a script has been played, else untouched
  pub values : l.values ≡ class_area (class_answer k) k.values
  pub units : l.units ≡ class_area (class_answer k) k.units
  pub delays : l.delays ≡ class_area (class_answer k) k.delays
  -- which numbers there are
  pub numbers : ClassAnswers (class_answer k)
  -- of each script's run all that is promised of a call with this script alone and its part as the log: the order of its units, what they see, what tick 1 notices, that its log is whole
  pub promised : (i : ℕ) → i < count k.book → Promised (lent k) (part_size k) k.circuit (entry k.book i)

-- ---- of a contract's slices

abbrev pub call_of : List ℕ → List ℕ → List ℕ → List ℕ → List ℕ → List ℕ → List ℕ → Call
call_of circuit book log values units delays told =
    record {
      circuit = circuit;
      book = book;
      log = log;
      values = values;
      units = units;
      delays = delays;
      told = told;
    }

abbrev pub left_of : List ℕ → List ℕ → List ℕ → List ℕ → List ℕ → Left
left_of log values units delays told = record { log = log; values = values; units = units; delays = delays; told = told }
