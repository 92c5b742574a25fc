-- What the three lent areas hold together.
use Rattle.std.specs.Prelude.{ℕ, List}
use Rattle.model.specs.Circuit.{Circuit}
use Rattle.model.specs.State.{Send, State}
use Rattle.model.specs.Chain.{Calls}
use Rattle.model.specs.Record.{Listed}
use Rattle.wires.specs.View.{Values, values}
use Rattle.states.specs.View.{Delays, delays}
use Rattle.units.specs.View.{Lists, Units, units}
use Rattle.units.specs.Raising.{Went}

-- what a unit leaves as it is: the units begun, the events of the tick before, which part each Queue has, and what lies behind the tables of each area
pub record Kept : Type 0 where
  pub begun : List Listed
  pub events : List Send
  pub parts : List ℕ
  pub behind_values : List ℕ
  pub behind_units : List ℕ
  pub behind_delays : List ℕ

-- the definition's state, what waits, the calls, and the rest
pub record Contents : Type 0 where
  pub state : State
  pub lists : Lists
  pub calls : Calls
  pub kept : Kept

-- of what each of them holds
abbrev pub together : Values → Units → Delays → Contents
together v u d =
    record {
      state = record { wires = v.wires; delays = d.delays; outbox = u.outbox; changed = d.changed };
      lists = u.lists;
      calls = u.calls;
      kept = record { begun = u.begun; events = u.events; parts = d.parts; behind_values = v.rest; behind_units = u.rest; behind_delays = d.rest };
    }

-- of the bytes of the three areas
abbrev pub areas : Circuit → List ℕ → List ℕ → List ℕ → Contents
areas c vs us ds = together (values c vs) (units c us) (delays c ds)

-- ---- one part changed, and nothing else

abbrev pub with_state : Contents → State → Contents
with_state a s = record { state = s; lists = a.lists; calls = a.calls; kept = a.kept }

abbrev pub with_calls : Contents → Calls → Contents
with_calls a q = record { state = a.state; lists = a.lists; calls = q; kept = a.kept }

-- what raising led to
abbrev pub with_went : Contents → Went → Contents
with_went a w = record { state = w.state; lists = w.lists; calls = a.calls; kept = a.kept }
