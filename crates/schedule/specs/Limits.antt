-- Three of document 01's limits, kept by every tick, a stopped one too: units begun, carried, and pending at its end.
use Rattle.std.specs.Prelude.{◌+◌, ◌≤◌, length}
use Rattle.schedule.specs.Schedule.{most_units, most_waiting, Setup, Tick}

module _ (S : Setup) where
  pub record FewUnits (t : Tick S) : Type 0 where
    -- the units begun
    pub units : length t.late + length t.main ≤ most_units
    -- what it carries, and what is still pending after a stop
    pub carried : length t.carried ≤ most_waiting
    pub waiting : length t.waiting ≤ most_waiting
