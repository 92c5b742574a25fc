-- What is promised of the two figures: no run of the circuit, whatever its script, its areas and the bytes of its log, exceeds either.
use Rattle.std.specs.Prelude.{ℕ, ◌+◌, ◌-◌, ◌*◌, ◌≤◌, ◌≡◌, List, eqb, length}
use Rattle.std.proofs.Math.Option.{some}
use Rattle.words.specs.Words.{words}
use Rattle.schedule.specs.Schedule.{plain, Turn, Tick}
use Rattle.schedule.specs.Promise.{All}
use Rattle.model.specs.Base.{if◌then◌otherwise◌}
use Rattle.model.specs.Circuit.{Circuit, circuit, word_at}
use Rattle.model.specs.Chain.{Chained, runaway}
use Rattle.model.specs.Unit.{World, run_unit}
use Rattle.model.specs.Run.{machine, ticks_get, ticks_of}
use Rattle.model.specs.Questions.{Areas, refusal}
use Rattle.model.specs.Answer.{play}
use Rattle.promises.specs.Logged.{Bytes}
use Rattle.figures.specs.Figures.{figures, size}

-- the steps that a unit caused which began in the world w and came to r: those that it made, and the one that 11 did not let it make
unfoldable pub caused : World → Chained → ℕ
caused w r = w.left - r.left + (if eqb r.stop runaway then 1 otherwise 0)

-- no unit of a tick causes more than so many
module _ (c : Circuit) (most : ℕ) where
  abbrev pub UnitWithin : Turn (plain (machine c)) → Type 0
  UnitWithin u = caused u.from (run_unit c u.from u.unit.act) ≤ most

  pub record TickWithin (t : Tick (plain (machine c))) : Type 0 where
    pub late : All UnitWithin t.late
    pub main : All UnitWithin t.main

-- a run of the circuit, with the script of these words, is within so many steps a unit and so many bytes of log
pub record RunWithin (c : Circuit) (room : ℕ) (script_words : List ℕ) (most_steps most_bytes : ℕ) : Type 0 where
  pub steps : All (TickWithin c most_steps) (ticks_of c room (ticks_get c script_words))
  pub log : 8 * length (play room c script_words).log ≤ most_bytes

-- Where the figures are given for T ticks, each call with the circuit that is not refused, and has at most T ticks, is within both.
abbrev pub NoRunExceeds : List ℕ → ℕ → Type 0
NoRunExceeds cb T =
    (steps bytes : ℕ) → size cb T ≡ figures steps bytes → (areas : Areas) (room : ℕ) (sb : List ℕ) → Bytes cb → Bytes sb →
    refusal (some areas) cb sb ≡ 0 → word_at (words sb) 0 ≤ T → RunWithin (circuit (words cb)) room (words sb) steps bytes
