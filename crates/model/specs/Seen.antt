-- What the units of small runs see when they begin, computed from words, and that reading for the record is not seen: Fresh and Unread, played.
use Rattle.std.specs.Prelude.{ℕ, ◌≡◌, refl, Bool, true, false, List, [], ◌∷◌, map}
use Rattle.std.proofs.Math.Option.{Option, none, some}
use Rattle.schedule.specs.Schedule.{numbered, plain, Turn, Tick, tick}
use Rattle.words.specs.Words.{bytes}
use Rattle.model.specs.declared.Value.{Value}
use Rattle.model.specs.declared.Value.TheVariants.{Nothing, Int, Float, Bool as Truth}
use Rattle.model.specs.Base.{joined}
use Rattle.model.specs.Kinds.{Select, Reroute, DeltaTime, ServerUptime, Var, ChangeDetector, Edge, EdgeExec, Clock, VarGet, VarSet, Toggle, SendEvent, EventCustom, WorldEvent, Loop, LoopEntry}
use Rattle.model.specs.Circuit.{Circuit, circuit}
use Rattle.model.specs.Script.{script}
use Rattle.model.specs.State.{Wires}
use Rattle.model.specs.Wires.{shown, is_dirty}
use Rattle.model.specs.Loops.{run_chain}
use Rattle.model.specs.Unit.{begin, enter}
use Rattle.model.specs.Run.{Allowed, allowed, machine, world_at_start, ticks_of}
use Rattle.model.specs.Answer.{checked, model_opened}
use Rattle.model.specs.Table.{quarter, half, body_of, -1}
use Rattle.model.specs.Order.{NumberedTick, numbered_ticks}
use Rattle.model.specs.Fresh.{read_output, afresh, fresh_opened}
use Rattle.model.specs.Unread.{unread, unread_ticks, unread_opened}

-- ---- what units see

-- of a unit: its gate, and at some outputs what they show, what reading them gives, and what is worked out afresh
pub record Saw : Type 0 where
  pub gate : ℕ
  pub shows : List Value
  pub read : List Value
  pub afresh : List Value

-- of a tick: its stop, and what its units saw, of its late pass and of its main pass
pub record TickSaw : Type 0 where
  pub stop : ℕ
  pub late : List Saw
  pub main : List Saw

module _ (c : Circuit) where
  -- the wires when a unit begins, or when it is entered and has made so many steps
  unfoldable pub wires_when : Option ℕ → Turn (numbered (machine c)) → Wires
  wires_when none u = u.from.state.wires
  wires_when (some steps) u = (run_chain c steps (begin c u.unit.act) (enter c u.from.state u.unit.act)).state.wires

  -- what a unit sees there at these outputs
  unfoldable pub saw : Option ℕ → List ℕ → Turn (numbered (machine c)) → Saw
  saw when os u =
      let w = wires_when when u in
      record { gate = u.unit.act.gate; shows = map (shown w) os; read = map (read_output c w) os; afresh = map (afresh c w) os }

  unfoldable pub tick_saw : Option ℕ → List ℕ → NumberedTick c → TickSaw
  tick_saw when os t = record { stop = t.stop; late = map (saw when os) t.late; main = map (saw when os) t.main }

-- the run of a circuit and a script with these words, whose ticks may make `limit` steps
unfoldable pub saw_in : List ℕ → List ℕ → ℕ → Option ℕ → List ℕ → List TickSaw
saw_in circuit_words script_words limit when os =
    let c = circuit circuit_words in
    map (tick_saw c when os) (numbered_ticks c 65536 (allowed limit (script c.constants script_words)))

unfoldable pub saw_opened : ℕ
unfolding model_opened fresh_opened wires_when saw tick_saw saw_in
saw_opened = 0

-- all three are the same
abbrev fresh : ℕ → List Value → Saw
fresh g vs = record { gate = g; shows = vs; read = vs; afresh = vs }

-- what is shown is left from before, what is read is not
abbrev stale : ℕ → List Value → List Value → Saw
stale g old new = record { gate = g; shows = old; read = new; afresh = new }

abbrev late_only : List Saw → TickSaw
late_only us = record { stop = 0; late = us; main = [] }

-- ---- a Var through pure gates

-- A WorldEvent (gate 0) calls a VarSet (2) that puts its Value into a Var (1), at first Int 0. A Reroute (3) reads the Var, a Select (4) of Int 0 and Int 6
-- reads the Reroute, and an EdgeExec (5) the Select. Outputs: 1 the WorldEvent's Value, 2 the Var, 4 the Reroute, 5 the Select. In one tick it brings Int 7.
unfoldable pub card : List ℕ
card =
    joined (
    (6 ∷ 4 ∷ 9 ∷ 1 ∷ [])
    ∷ (1 ∷ 1 ∷ 1 ∷ 1 ∷ []) ∷ (0 ∷ 1 ∷ 6 ∷ 7 ∷ [])
    ∷ (WorldEvent ∷ Var ∷ VarSet ∷ Reroute ∷ Select ∷ EdgeExec ∷ []) ∷ (0 ∷ 0 ∷ 0 ∷ 0 ∷ 0 ∷ 0 ∷ [])
    ∷ (-1 ∷ -1 ∷ -1 ∷ 1 ∷ 2 ∷ 4 ∷ -1 ∷ -1 ∷ 5 ∷ []) ∷ (1 ∷ 0 ∷ 2 ∷ 0 ∷ 0 ∷ 0 ∷ 1 ∷ 3 ∷ 0 ∷ [])
    ∷ (0 ∷ []) ∷ (2 ∷ [])
    ∷ [])

unfoldable pub card_script : List ℕ
card_script = 1 ∷ 1 ∷ 0 ∷ 1 ∷ 0 ∷ 4 ∷ []

-- The WorldEvent's unit sees the Select at Int 0. The EdgeExec's unit, which the VarSet brought about, sees it at Int 6.
pub units_see :
    saw_in card card_script 100 none (1 ∷ 2 ∷ 4 ∷ 5 ∷ [])
    ≡ late_only (fresh 0 (Nothing ∷ Int 0 ∷ Int 0 ∷ Int 0 ∷ []) ∷ fresh 5 (Int 7 ∷ Int 7 ∷ Int 7 ∷ Int 6 ∷ []) ∷ []) ∷ []
unfolding saw_opened card card_script
units_see = refl

-- After its VarSet, before its chain has ended, the first unit has the Var at Int 7 already, and what reads it through the Reroute is as it was: what a unit may see
-- only between a VarSet and the end of its chain and forks.
pub left_from_before :
    saw_in card card_script 100 (some 1) (2 ∷ 4 ∷ 5 ∷ [])
    ≡ late_only (
    record { gate = 0; shows = Int 7 ∷ Int 0 ∷ Int 0 ∷ []; read = Int 7 ∷ Int 0 ∷ Int 0 ∷ []; afresh = Int 7 ∷ Int 7 ∷ Int 6 ∷ [] }
    ∷ fresh 5 (Int 7 ∷ Int 7 ∷ Int 6 ∷ []) ∷ [])
    ∷ []
unfolding saw_opened card card_script
left_from_before = refl

-- A WorldEvent (0) calls a VarGet (1) of a Var (2), Int 7; a Reroute (3), output 5, reads the VarGet's Value. The event comes twice in a tick.
unfoldable pub got : List ℕ
got =
    joined (
    (4 ∷ 2 ∷ 4 ∷ 1 ∷ [])
    ∷ (1 ∷ 1 ∷ []) ∷ (2 ∷ 7 ∷ [])
    ∷ (WorldEvent ∷ VarGet ∷ Var ∷ Reroute ∷ []) ∷ (0 ∷ 0 ∷ 0 ∷ 0 ∷ [])
    ∷ (-1 ∷ -1 ∷ -1 ∷ 3 ∷ []) ∷ (0 ∷ 1 ∷ 2 ∷ 0 ∷ [])
    ∷ (0 ∷ []) ∷ (0 ∷ [])
    ∷ [])

unfoldable pub twice : List ℕ
twice = 1 ∷ 2 ∷ 0 ∷ 2 ∷ 0 ∷ 0 ∷ 0 ∷ 0 ∷ []

-- the second unit sees what the first one got
pub gets : saw_in got twice 100 none (5 ∷ []) ≡ late_only (fresh 0 (Nothing ∷ []) ∷ fresh 0 (Int 7 ∷ []) ∷ []) ∷ []
unfolding saw_opened got twice
gets = refl

-- so it does in a tick that may make one step, and is stopped by its second
pub stopped_too :
    saw_in got twice 1 none (5 ∷ []) ≡ record { stop = 11; late = fresh 0 (Nothing ∷ []) ∷ fresh 0 (Int 7 ∷ []) ∷ []; main = [] } ∷ []
unfolding saw_opened got twice
stopped_too = refl

-- ---- gates that a pulse leaves stale

-- An Edge (gate 1) watches a WorldEvent's Value (gate 0), and a Reroute (2), output 4, reads its rising pulse; nothing watches the Reroute. A second WorldEvent (3)
-- fires in the same tick. The pulse goes up when the first unit settles, after its refreshing, so the Reroute is left stale.
unfoldable pub pulse : List ℕ
pulse =
    joined (
    (4 ∷ 1 ∷ 2 ∷ 0 ∷ [])
    ∷ (1 ∷ []) ∷ (7 ∷ [])
    ∷ (WorldEvent ∷ Edge ∷ Reroute ∷ WorldEvent ∷ []) ∷ (0 ∷ 0 ∷ 0 ∷ 0 ∷ [])
    ∷ (1 ∷ 2 ∷ []) ∷ (0 ∷ 0 ∷ [])
    ∷ [])

unfoldable pub both_fire : List ℕ
both_fire = 1 ∷ 2 ∷ 0 ∷ 2 ∷ 0 ∷ 3 ∷ 1 ∷ 0 ∷ []

-- What the second unit is shown is left from before; what it reads is not.
pub stale_is_read_afresh :
    saw_in pulse both_fire 100 none (4 ∷ []) ≡ late_only (fresh 0 (Nothing ∷ []) ∷ stale 3 (Nothing ∷ []) (Truth true ∷ []) ∷ []) ∷ []
unfolding saw_opened pulse both_fire
stale_is_read_afresh = refl

-- the second event two ticks later, when the pulse has ended
unfoldable pub one_later : List ℕ
one_later = 3 ∷ 2 ∷ 0 ∷ 0 ∷ 0 ∷ 1 ∷ 0 ∷ 1 ∷ 0 ∷ 3 ∷ 1 ∷ 0 ∷ []

pub fallen : saw_in pulse one_later 100 none (4 ∷ []) ≡ late_only (fresh 0 (Nothing ∷ []) ∷ []) ∷ late_only [] ∷ late_only (fresh 3 (Truth false ∷ []) ∷ []) ∷ []
unfolding saw_opened pulse one_later
fallen = refl

-- Two Selects behind the pulse, the reader (2), output 4, before the one that it reads (3), output 5: where the pulse is up the second gives Int 6, else Int 5, and
-- the first passes that on where the pulse is up, else Int 5 too.
unfoldable pub chained : List ℕ
chained =
    joined (
    (5 ∷ 3 ∷ 7 ∷ 0 ∷ [])
    ∷ (1 ∷ 1 ∷ 1 ∷ []) ∷ (7 ∷ 5 ∷ 6 ∷ [])
    ∷ (WorldEvent ∷ Edge ∷ Select ∷ Select ∷ WorldEvent ∷ []) ∷ (0 ∷ 0 ∷ 0 ∷ 0 ∷ 0 ∷ [])
    ∷ (1 ∷ 2 ∷ -1 ∷ 5 ∷ 2 ∷ -1 ∷ -1 ∷ []) ∷ (0 ∷ 0 ∷ 2 ∷ 0 ∷ 0 ∷ 2 ∷ 3 ∷ [])
    ∷ [])

unfoldable pub both_fire_again : List ℕ
both_fire_again = 1 ∷ 2 ∷ 0 ∷ 2 ∷ 0 ∷ 4 ∷ 1 ∷ 0 ∷ []

pub chained-Selects :
    saw_in chained both_fire_again 100 none (4 ∷ 5 ∷ [])
    ≡ late_only (fresh 0 (Int 5 ∷ Int 5 ∷ []) ∷ stale 4 (Int 5 ∷ Int 5 ∷ []) (Int 6 ∷ Int 6 ∷ []) ∷ []) ∷ []
unfolding saw_opened chained both_fire_again
chained-Selects = refl

-- ---- units of the main pass, carried and delivered ones

-- A Clock (0, rank 4) of 0.25 seconds calls a Toggle (1). Two EdgeExecs watch the Toggle, one of rank 4 (2) and one of rank 5 (3), and a Reroute (4), output 7, reads
-- it. A tick of 0.25 seconds, and one of 0.0.
unfoldable pub shift : List ℕ
shift =
    joined (
    (5 ∷ 1 ∷ 7 ∷ 1 ∷ [])
    ∷ (2 ∷ []) ∷ (quarter ∷ [])
    ∷ (Clock ∷ Toggle ∷ EdgeExec ∷ EdgeExec ∷ Reroute ∷ []) ∷ (4 ∷ 0 ∷ 4 ∷ 5 ∷ 0 ∷ [])
    ∷ (-1 ∷ -1 ∷ -1 ∷ -1 ∷ 2 ∷ 2 ∷ 2 ∷ []) ∷ (0 ∷ 0 ∷ 1 ∷ 0 ∷ 0 ∷ 0 ∷ 0 ∷ [])
    ∷ (0 ∷ []) ∷ (6 ∷ [])
    ∷ [])

unfoldable pub shift_script : List ℕ
shift_script = 2 ∷ 0 ∷ quarter ∷ 0 ∷ 0 ∷ 0 ∷ []

pub main_and_carried :
    saw_in shift shift_script 100 none (7 ∷ [])
    ≡ record { stop = 0; late = []; main = fresh 0 (Nothing ∷ []) ∷ fresh 3 (Truth true ∷ []) ∷ [] } ∷ late_only (fresh 2 (Truth true ∷ []) ∷ []) ∷ []
unfolding saw_opened shift shift_script
main_and_carried = refl

-- A WorldEvent (0) calls a SendEvent (1) that sends Int 5; a Reroute (3), output 12, reads what its EventCustom (2) hands out.
unfoldable pub message : List ℕ
message =
    joined (
    (4 ∷ 2 ∷ 12 ∷ 1 ∷ [])
    ∷ (1 ∷ 1 ∷ []) ∷ (0 ∷ 5 ∷ [])
    ∷ (WorldEvent ∷ SendEvent ∷ EventCustom ∷ Reroute ∷ []) ∷ (0 ∷ 0 ∷ 0 ∷ 0 ∷ [])
    ∷ (-1 ∷ -1 ∷ -1 ∷ -1 ∷ -1 ∷ -1 ∷ -1 ∷ -1 ∷ -1 ∷ -1 ∷ -1 ∷ 4 ∷ []) ∷ (0 ∷ 1 ∷ 2 ∷ 0 ∷ 0 ∷ 0 ∷ 0 ∷ 0 ∷ 0 ∷ 0 ∷ 1 ∷ 0 ∷ [])
    ∷ (0 ∷ []) ∷ (0 ∷ [])
    ∷ [])

unfoldable pub message_script : List ℕ
message_script = 2 ∷ 1 ∷ 0 ∷ 0 ∷ 1 ∷ 0 ∷ 0 ∷ 0 ∷ []

-- When the event's unit begins, the values that it brings are not there yet; when it is entered, they are, and the Reroute is stale.
pub delivered_too :
    (saw_in message message_script 100 none (12 ∷ []) ≡ late_only (fresh 0 (Nothing ∷ []) ∷ []) ∷ late_only (fresh 2 (Nothing ∷ []) ∷ []) ∷ [])
    × (saw_in message message_script 100 (some 0) (12 ∷ []) ≡ late_only (fresh 0 (Nothing ∷ []) ∷ []) ∷ late_only (stale 2 (Nothing ∷ []) (Int 5 ∷ []) ∷ []) ∷ [])
unfolding saw_opened message message_script
delivered_too = (refl, refl)

-- ---- the times

-- A WorldEvent (0), DeltaTime (1), output 2, and ServerUptime (2), output 3; two ticks of 0.25 seconds, with an event in each.
unfoldable pub times : List ℕ
times = 3 ∷ 0 ∷ 0 ∷ 0 ∷ WorldEvent ∷ DeltaTime ∷ ServerUptime ∷ 0 ∷ 0 ∷ 0 ∷ []

unfoldable pub two_quarters : List ℕ
two_quarters = 2 ∷ 2 ∷ quarter ∷ quarter ∷ 1 ∷ 1 ∷ 0 ∷ 0 ∷ 0 ∷ 0 ∷ []

-- Each unit sees the length and the uptime of its own tick.
pub units_see_times :
    saw_in times two_quarters 100 none (2 ∷ 3 ∷ [])
    ≡ late_only (fresh 0 (Float quarter ∷ Float quarter ∷ []) ∷ []) ∷ late_only (fresh 0 (Float quarter ∷ Float half ∷ []) ∷ []) ∷ []
unfolding saw_opened times two_quarters
units_see_times = refl

-- ---- a Loop

-- A Var (0), true, drives a Loop (2, rank 4) of three runs, whose body puts Index, output 7, through a Reroute (5), output 9, into another Var (1), at first Int 0. A
-- Reroute (6), output 10, reads that Var, and a ChangeDetector (7, rank 6) that Reroute.
unfoldable pub repeated : List ℕ
repeated =
    joined (
    (8 ∷ 5 ∷ 13 ∷ 1 ∷ [])
    ∷ (3 ∷ 1 ∷ 1 ∷ 1 ∷ 1 ∷ []) ∷ (1 ∷ 0 ∷ 3 ∷ 2 ∷ 1 ∷ [])
    ∷ (Var ∷ Var ∷ Loop ∷ LoopEntry ∷ VarSet ∷ Reroute ∷ Reroute ∷ ChangeDetector ∷ []) ∷ (0 ∷ 0 ∷ 4 ∷ body_of 2 ∷ body_of 2 ∷ 0 ∷ 0 ∷ 6 ∷ [])
    ∷ (-1 ∷ -1 ∷ 0 ∷ -1 ∷ -1 ∷ -1 ∷ -1 ∷ -1 ∷ -1 ∷ 9 ∷ 7 ∷ 1 ∷ 10 ∷ []) ∷ (1 ∷ 2 ∷ 0 ∷ 3 ∷ 0 ∷ 0 ∷ 4 ∷ 0 ∷ 5 ∷ 0 ∷ 0 ∷ 0 ∷ 0 ∷ [])
    ∷ (6 ∷ []) ∷ (14 ∷ [])
    ∷ [])

unfoldable pub two_ticks : List ℕ
two_ticks = 2 ∷ 0 ∷ 0 ∷ 0 ∷ 0 ∷ 0 ∷ []

-- The ChangeDetector's units, of tick 1's main pass for its first reading and of tick 2's late pass, to which the write in the body puts it off, see the last Index.
pub runs_are_seen :
    saw_in repeated two_ticks 100 none (7 ∷ 9 ∷ 1 ∷ 10 ∷ [])
    ≡ record { stop = 0; late = []; main = fresh 2 (Nothing ∷ Nothing ∷ Int 0 ∷ Int 0 ∷ []) ∷ fresh 7 (Int 2 ∷ Int 2 ∷ Int 2 ∷ Int 2 ∷ []) ∷ [] }
    ∷ late_only (fresh 7 (Int 2 ∷ Int 2 ∷ Int 2 ∷ Int 2 ∷ []) ∷ []) ∷ []
unfolding saw_opened repeated two_ticks
runs_are_seen = refl

-- As the third run begins, three steps behind the unit's begin, Index reaches the Reroute that reads it at once; what the runs before wrote has not reached the other one.
pub index_at_once :
    saw_in repeated two_ticks 100 (some 3) (7 ∷ 9 ∷ 1 ∷ 10 ∷ [])
    ≡ record {
      stop = 0;
      late = [];
      main =
          record {
            gate = 2;
            shows = Int 2 ∷ Int 1 ∷ Int 1 ∷ Int 0 ∷ [];
            read = Int 2 ∷ Int 2 ∷ Int 1 ∷ Int 0 ∷ [];
            afresh = Int 2 ∷ Int 2 ∷ Int 1 ∷ Int 1 ∷ [];
          }
          ∷ fresh 7 (Int 2 ∷ Int 2 ∷ Int 2 ∷ Int 2 ∷ []) ∷ [];
    }
    ∷ late_only (fresh 7 (Int 2 ∷ Int 2 ∷ Int 2 ∷ Int 2 ∷ []) ∷ []) ∷ []
unfolding saw_opened repeated two_ticks
index_at_once = refl

-- ---- reading for the record

-- The Edge (gate 1) behind a WorldEvent (0) again; a Select (2), output 4, reads its pulse and, on both sides, a Var (3), at first Int 1. A second WorldEvent (4) calls
-- a VarSet (5) that puts Int 9 into that Var, and then one (6) that puts what the Select gives into another Var (7), output 10.
unfoldable pub write_behind : List ℕ
write_behind =
    joined (
    (8 ∷ 5 ∷ 12 ∷ 2 ∷ [])
    ∷ (1 ∷ 1 ∷ 1 ∷ 1 ∷ 1 ∷ []) ∷ (1 ∷ 3 ∷ 9 ∷ 7 ∷ 0 ∷ [])
    ∷ (WorldEvent ∷ Edge ∷ Select ∷ Var ∷ WorldEvent ∷ VarSet ∷ VarSet ∷ Var ∷ []) ∷ (0 ∷ 0 ∷ 0 ∷ 0 ∷ 0 ∷ 0 ∷ 0 ∷ 0 ∷ [])
    ∷ (1 ∷ 2 ∷ 5 ∷ 5 ∷ -1 ∷ -1 ∷ -1 ∷ -1 ∷ -1 ∷ -1 ∷ 4 ∷ -1 ∷ []) ∷ (0 ∷ 0 ∷ 0 ∷ 0 ∷ 1 ∷ 0 ∷ 2 ∷ 3 ∷ 0 ∷ 4 ∷ 0 ∷ 5 ∷ [])
    ∷ (6 ∷ 8 ∷ []) ∷ (10 ∷ 16 ∷ [])
    ∷ [])

-- in its first tick the first WorldEvent fires and shows Int 7, in its second the other one
unfoldable pub one_each : List ℕ
one_each = 2 ∷ 2 ∷ 0 ∷ 0 ∷ 1 ∷ 1 ∷ 0 ∷ 4 ∷ 4 ∷ 0 ∷ []

abbrev W : Circuit
W = circuit write_behind

abbrev both_get : List Allowed
both_get = allowed 100 (script W.constants one_each)

-- whether the Select is stale in the world that the first tick leaves, read for its record
unfoldable pub stale_when_read : List (Tick (plain (machine W))) → List Bool
stale_when_read [] = []
stale_when_read (t ∷ ts) = is_dirty t.world.state.wires 2 ∷ []

-- and unread
unfoldable pub stale_when_unread : List Allowed → List Bool
stale_when_unread [] = []
stale_when_unread (i ∷ is) =
    let w = world_at_start W 65536 in
    is_dirty (unread W w i (tick (plain (machine W)) w i [] tt)).state.wires 2 ∷ []

-- The first tick leaves the Select stale, and its record refreshes it.
pub refreshed_for_the_record : (stale_when_unread both_get ≡ true ∷ []) × (stale_when_read (ticks_of W 65536 both_get) ≡ false ∷ [])
unfolding saw_opened unread_opened write_behind one_each stale_when_read stale_when_unread
refreshed_for_the_record = (refl, refl)

-- what the second Var shows after each tick
unfoldable pub second_var : List (Tick (plain (machine W))) → List Value
second_var ts = map (λ (t : Tick (plain (machine W))). shown t.world.state.wires 10) ts

-- Read or unread, the second tick's chain reads Int 1 there, and not the Int 9 that it wrote: settling has refreshed the Select before.
pub read_or_unread : (second_var (ticks_of W 65536 both_get) ≡ Int 0 ∷ Int 1 ∷ []) × (second_var (unread_ticks W 65536 both_get) ≡ Int 0 ∷ Int 1 ∷ [])
unfolding saw_opened unread_opened write_behind one_each second_var
read_or_unread = (refl, refl)

-- ---- none of these calls is refused

pub none_refused :
    (checked (bytes card) (bytes card_script) ≡ 0) × (checked (bytes got) (bytes twice) ≡ 0) × (checked (bytes pulse) (bytes both_fire) ≡ 0)
    × (checked (bytes pulse) (bytes one_later) ≡ 0) × (checked (bytes chained) (bytes both_fire_again) ≡ 0) × (checked (bytes shift) (bytes shift_script) ≡ 0)
    × (checked (bytes message) (bytes message_script) ≡ 0) × (checked (bytes times) (bytes two_quarters) ≡ 0) × (checked (bytes write_behind) (bytes one_each) ≡ 0)
    × (checked (bytes repeated) (bytes two_ticks) ≡ 0)
unfolding saw_opened card card_script got twice pulse both_fire one_later chained both_fire_again shift shift_script message message_script times two_quarters write_behind one_each repeated two_ticks
none_refused = (refl, refl, refl, refl, refl, refl, refl, refl, refl, refl)
