-- What is promised of the order of every run that is not refused: demand 3 at this machine.
use Rattle.std.specs.Prelude.{◌≡◌, true, List, [], ◌∷◌, ◌++◌, map, ◌⊎◌, ℕ, length}
use Rattle.words.specs.Words.{words}
use Rattle.schedule.specs.Schedule.{log_full, numbered, Activation, Turn, Tick, outcome, run}
use Rattle.schedule.specs.Promise.{All, Along, Order, Follows}
use Rattle.schedule.specs.Erasure.{bare_tick}
use Rattle.model.specs.Circuit.{Circuit, circuit}
use Rattle.model.specs.Chain.{no_calls}
use Rattle.model.specs.Unit.{run_unit}
use Rattle.model.specs.Record.{LogRecord, record_words, record_at}
use Rattle.model.specs.Closing.{as_listed, log_record}
use Rattle.model.specs.Run.{Allowed, ticks_get, machine, world_at_start, seen}
use Rattle.model.specs.Questions.{Areas}
use Rattle.model.specs.Answer.{played, answer}

module _ (c : Circuit) where
  -- a tick whose activations are known by the number of their raising
  abbrev pub NumberedTick : Type 0
  NumberedTick = Tick (numbered (machine c))

  -- the run of which the promise speaks: whole, from the start, up to a stop, the stopped tick included
  abbrev pub numbered_ticks : ℕ → List Allowed → List NumberedTick
  numbered_ticks room is = run (numbered (machine c)) is (world_at_start c room)

  -- the record of a tick that got this: it lists the units that the tick began and those that it carries, in their order
  abbrev pub record_of : Allowed → NumberedTick → LogRecord
  record_of i t = log_record i.limit t.world (outcome (numbered (machine c)) t.late t.main t.carried t.stop)

  -- its words were written to the log, or they did not fit
  abbrev pub Recorded : Allowed → NumberedTick → Type 0
  Recorded i t = (t.world.logged ≡ record_words (record_of i t)) ⊎ ((t.stop ≡ log_full) × (t.world.logged ≡ []))

  -- and what was written is read back as that record, whatever follows it
  abbrev pub ReadBack : NumberedTick → Type 0
  ReadBack t =
      (i : Allowed) → t.world.logged ≡ record_words (record_of i t) → (rest : List ℕ) → record_at (length c.outputs) (t.world.logged ++ rest) ≡ record_of i t

  -- Where a next tick u is played, the units that the record of t lists as carried are those that come into u, in that order, and that u puts into its late list first
  -- (`first_late` of the promise).
  abbrev pub ShowsWhatWaits : List NumberedTick → Type 0
  ShowsWhatWaits ticks =
      (pre : List NumberedTick) (t u : NumberedTick) (post : List NumberedTick) → ticks ≡ pre ++ (t ∷ u ∷ post) →
      (record_at (length c.outputs) t.world.logged).carried ≡ map (λ (e : Activation (numbered (machine c))). as_listed e.act) u.came

  -- a unit that is said to have run left no call on the chain stack, and none on the forks
  abbrev pub Ended : Turn (numbered (machine c)) → Type 0
  Ended u = u.ran ≡ true → (run_unit c u.from u.unit.act).calls ≡ no_calls

-- What is promised of a call with these areas, a log of so many bytes, a circuit and a script, where it is not refused.
pub record InOrder (areas : Areas) (room : ℕ) (circuit_bytes script_bytes : List ℕ) (c : Circuit) (is : List Allowed) (ticks : List (NumberedTick c)) : Type 0 where
  -- (a) to (e), of the whole run
  pub order : Order (machine c) ticks
  -- one tick for each that the script gives, up to a stop; each tick and each unit begins in the world that the one before it left; what openings raised
  pub follows : Follows (numbered (machine c)) is (world_at_start c room) ticks
  pub recorded : Along (Recorded c) is ticks
  pub read_back : All (ReadBack c) ticks
  pub shows_what_waits : ShowsWhatWaits c ticks
  pub ended : All (λ t. All (Ended c) t.late × All (Ended c) t.main) ticks
  -- the answer is made of this run, the numbers left out
  pub answered : answer areas room circuit_bytes script_bytes ≡ played (seen c (map (bare_tick (numbered (machine c))) ticks))

-- the circuit and the run of a call
abbrev pub WholeRunInOrder : Areas → ℕ → List ℕ → List ℕ → Type 0
WholeRunInOrder areas room circuit_bytes script_bytes =
    let c = circuit (words circuit_bytes) in
    let is = ticks_get c (words script_bytes) in
    InOrder areas room circuit_bytes script_bytes c is (numbered_ticks c room is)
