-- The end of a tick: its outputs are read, and its record is written to the log.
use Rattle.std.specs.Prelude.{ℕ, ◌+◌, ◌-◌, ◌*◌, true, false, List, [], map, leb, eqb, length}
use Rattle.schedule.specs.Schedule.{Outcome, Closed}
use Rattle.model.specs.declared.Value.{Value}
use Rattle.model.specs.Base.{if◌then◌otherwise◌}
use Rattle.model.specs.Circuit.{Circuit}
use Rattle.model.specs.State.{Act, State, wires≔}
use Rattle.model.specs.Wires.{refresh_all}
use Rattle.model.specs.Chain.{runaway}
use Rattle.model.specs.Unit.{World}
use Rattle.model.specs.Record.{Listed, LogRecord, listed, record_words}

-- A pure output and a Var's Value show what reading them gives, so where the tick ended without a stop the pure gates are refreshed.
unfoldable pub read_outputs : Circuit → State → ℕ → State
read_outputs c s stop = if eqb stop 0 then wires≔ s (refresh_all c s.wires) otherwise s

-- the steps made of a tick that may make `limit`; those of one stopped by 11 include the one not made
unfoldable pub steps : ℕ → World → ℕ → ℕ
steps limit w stop = limit - w.left + (if eqb stop runaway then 1 otherwise 0)

-- what every output shows; a stopped tick shows none
unfoldable pub outputs_shown : State → ℕ → List Value
outputs_shown s stop = if eqb stop 0 then s.wires.outs otherwise []

-- what is to run, as a record lists it
abbrev pub as_listed : Act → Listed
as_listed a = listed a.gate a.form

-- the record of a tick that came to this outcome: the units begun, and those that it carries, after a stop too
unfoldable pub log_record : ℕ → World → Outcome Act → LogRecord
log_record limit w o =
    record {
      tick = w.state.wires.tick;
      steps = steps limit w o.stop;
      late = map as_listed o.late;
      main = map as_listed o.main;
      carried = map as_listed o.carried;
      stop = o.stop;
      changed = w.state.changed;
      outs = outputs_shown w.state o.stop;
    }

-- of a record that does not fit no part is written
unfoldable pub write : World → List ℕ → Closed World
write w r =
    if leb (8 * length r) w.room then
    record { world = record { state = w.state; left = w.left; room = w.room - 8 * length r; logged = r }; fits = true }
    otherwise record { world = record { state = w.state; left = w.left; room = w.room; logged = [] }; fits = false }

-- the record of a tick, made and written
unfoldable pub close : ℕ → World → Outcome Act → Closed World
close limit w o = write w (record_words (log_record limit w o))

unfoldable pub closing_opened : ℕ
unfolding read_outputs steps outputs_shown log_record write close
closing_opened = 0
