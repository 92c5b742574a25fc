-- A run: the machine, as `schedule` schedules it, and what is seen of the list of its ticks.
use Rattle.std.specs.Prelude.{ℕ, List, [], ◌∷◌, map, eqb, length}
use Rattle.schedule.specs.Schedule.{Did, Outcome, Closed, Place, When, Machine, plain, Tick, run}
use Rattle.model.specs.Base.{if◌then◌otherwise◌, keep, joined}
use Rattle.model.specs.Circuit.{Circuit, rank_of_gate}
use Rattle.model.specs.Script.{Given, script}
use Rattle.model.specs.State.{Act}
use Rattle.model.specs.Opening.{open_tick, start}
use Rattle.model.specs.Unit.{World, state≔, raises_in, run_unit, finish_chain}
use Rattle.model.specs.Closing.{read_outputs, close}

-- the steps of a tick
abbrev pub most_steps : ℕ
most_steps = 50000000

-- What is seen of a run: the words of its log, the stop that ended it, or 0, and the ticks done, which are the records written with stop 0.
pub record Played : Type 0 where
  pub log : List ℕ
  pub stop : ℕ
  pub ticks : ℕ

-- What a tick gets: what the script gives to it, and the steps that it may make.
pub record Allowed : Type 0 where
  pub given : Given
  pub limit : ℕ

abbrev pub allow : ℕ → Given → Allowed
allow limit g = record { given = g; limit = limit }

-- the same number of steps for each
unfoldable pub allowed : ℕ → List Given → List Allowed
allowed limit gs = map (allow limit) gs

-- what the ticks of a script with these words get, where each may make so many steps
abbrev pub gets : Circuit → ℕ → List ℕ → List Allowed
gets c limit script_words = allowed limit (script c.constants script_words)

-- and of a call
abbrev pub ticks_get : Circuit → List ℕ → List Allowed
ticks_get c script_words = gets c most_steps script_words

module _ (c : Circuit) where
  -- before the passes: no step was made
  unfoldable pub opening : World → Allowed → Did World Act Place
  opening w i =
      let z = open_tick c w.state i.given in
      record { world = state≔ w i.limit z.state; raises = raises_in w i.limit z.raises; stop = 0 }

  -- what a unit does
  unfoldable pub body : World → Act → Did World Act When
  body w a = finish_chain c w (run_unit c w a)

  -- after the passes: the outputs are read, the record is written
  unfoldable pub closing : World → Allowed → Outcome Act → Closed World
  closing w i o = close i.limit (state≔ w w.left (read_outputs c w.state o.stop)) o

  -- The machine of a circuit. A unit's rank is its gate's.
  abbrev pub machine : Machine
  machine = record { W = World; In = Allowed; Act = Act; rank = λ a. rank_of_gate c a.gate; opening = opening; body = body; closing = closing }

  -- before tick 1, with a log of so many bytes; a tick's opening says how many steps are left
  unfoldable pub world_at_start : ℕ → World
  world_at_start room = record { state = start c; left = 0; room = room; logged = [] }

  -- the ticks of a script, each with the steps that it may make
  unfoldable pub ticks_of : ℕ → List Allowed → List (Tick (plain machine))
  ticks_of room is = run (plain machine) is (world_at_start room)

  -- the stop of the last tick, or 0
  unfoldable pub last_stop : List (Tick (plain machine)) → ℕ
  last_stop [] = 0
  last_stop (t ∷ ts) = if eqb t.stop 0 then last_stop ts otherwise t.stop

  -- the records of a run's ticks, one behind the other, its stop, and how many ticks had no stop
  unfoldable pub seen : List (Tick (plain machine)) → Played
  seen ts =
      record {
        log = joined (map (λ (t : Tick (plain machine)). t.world.logged) ts);
        stop = last_stop ts;
        ticks = length (keep (λ (t : Tick (plain machine)). eqb t.stop 0) ts);
      }

  unfoldable pub run_opened : ℕ
  unfolding allowed opening body closing world_at_start ticks_of last_stop seen
  run_opened = 0
