-- What is promised of the count of narrowings that changed their number, in every run that is not refused: it stays far below its cap, `most_changed`, so none is left out.
use Rattle.std.specs.Prelude.{List, ◌++◌, ℕ, ◌+◌, ◌*◌, ◌≤◌}
use Rattle.words.specs.Words.{words}
use Rattle.schedule.specs.Schedule.{most_units, numbered, Turn}
use Rattle.schedule.specs.Promise.{All}
use Rattle.model.specs.Circuit.{Circuit, most_gates, circuit}
use Rattle.model.specs.Script.{Given}
use Rattle.model.specs.State.{Act, State, wires≔}
use Rattle.model.specs.Wires.{refresh_all}
use Rattle.model.specs.Loops.{run_chain}
use Rattle.model.specs.Settle.{calm, check_on, most_checks, publish_writes}
use Rattle.model.specs.Opening.{before_settling}
use Rattle.model.specs.Unit.{World, begin, enter, run_unit}
use Rattle.model.specs.Run.{most_steps, ticks_get, machine}
use Rattle.model.specs.Order.{NumberedTick, numbered_ticks}

-- A tick counts one at the most for its length, for each gate that moves on in its opening (buffers and Queues, Clocks, Stopwatches), for each step and for each check.
-- It settles in its opening and in each unit, with (inputs + 1) × (outputs + 1) checks at the most; there are no more than 640 inputs and 576 outputs.
abbrev pub most_counted : ℕ
most_counted = 1 + 3 * most_gates + most_steps + (1 + most_units) * (641 * 577)

module _ (c : Circuit) where
  -- after each check of settling the state s, and before the first
  abbrev pub SettlingCounted : State → Type 0
  SettlingCounted s = (checks : ℕ) → checks ≤ most_checks c → (check_on c checks (calm (wires≔ s (refresh_all c s.wires)))).state.changed ≤ most_counted

  -- In the unit a that begins in the world w: after each of the steps that the tick may still make, and in the settling that follows when its writes are published.
  pub record UnitCounted (w : World) (a : Act) : Type 0 where
    pub chain : (steps : ℕ) → steps ≤ w.left → (run_chain c steps (begin c a) (enter c w.state a)).state.changed ≤ most_counted
    pub settling : let s = (run_unit c w a).state in SettlingCounted (wires≔ s (publish_writes c s.wires))

  -- In a tick: in each unit that it begins, and at its end, after a stop too; this is the count of its record.
  pub record TickCounted (t : NumberedTick c) : Type 0 where
    pub units : All (λ (u : Turn (numbered (machine c))). UnitCounted u.from u.unit.act) (t.late ++ t.main)
    pub ended : t.world.state.changed ≤ most_counted

-- In the opening of a tick, whatever the state in which it begins and whatever it is given; and in each tick of the run.
pub record WholeRunCounted (room : ℕ) (circuit_bytes script_bytes : List ℕ) : Type 0 where
  pub openings : (s : State) (given : Given) → let c = circuit (words circuit_bytes) in SettlingCounted c (before_settling c s given).state
  pub ticks : let c = circuit (words circuit_bytes) in All (TickCounted c) (numbered_ticks c room (ticks_get c (words script_bytes)))
