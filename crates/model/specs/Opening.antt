-- The start of a run, and the opening of a tick: all that comes before its passes.
use Rattle.std.specs.Prelude.{ℕ, suc, ◌+◌, Bool, true, false, ◌&&◌, ◌||◌, List, [], ◌++◌, map, leb, ltb, eqb, length, get_or, set, replicate}
use Rattle.std.proofs.Math.Option.{none}
use Rattle.schedule.specs.Schedule.{Raise, Place, When, to_late, to_delivered, to_pending}
use Rattle.model.specs.declared.Value.{Value}
use Rattle.model.specs.declared.Value.TheVariants.{Nothing, Int, Float, Bool as Truth}
use Rattle.model.specs.Base.{if◌then◌otherwise◌, each, keep, joined, from}
use Rattle.model.specs.Value.{truthy, bit, as_float, same, narrow, narrow_changes, plus64, one_point_zero}
use Rattle.model.specs.Kinds.{Var, BufferTicks, BufferTicksExec, BufferSeconds, BufferSecondsExec, QueueInTicks, QueueInSeconds, pure}
use Rattle.model.specs.Circuit.{Circuit, kind_of_gate, output, setting, watching, gates_of}
use Rattle.model.specs.Script.{Given}
use Rattle.model.specs.State.{Wires, idle, form-Fire, form-Event, Act, Send, State, times≔, pulses≔, unions_passed≔, runs_left≔, wires≔, outbox≔, changed≔}
use Rattle.model.specs.Wires.{watch, invalidate, refresh_all, set_out, set_outs}
use Rattle.model.specs.Delays.{Moved, advance_flight, advance_fires, advance_records, advance_elapsed, advance_time}
use Rattle.model.specs.Exec.{count_changed, delay, delay≔, readied, read, countdown}
use Rattle.model.specs.Settle.{settle}

-- ---- the start

-- tick length and uptime 0.0, each Var its initial, other outputs nothing, every pure gate stale; nothing waiting
abbrev pub wires_stale : Circuit → Wires
wires_stale c =
    record {
      tick = 0;
      dt = 0;
      uptime = 0;
      outs = each (λ vs g. set vs (output c g 0) (setting c g 0)) (replicate (length c.outputs) Nothing) (gates_of c (λ k. eqb k Var));
      dirty = map pure c.kinds;
      to_check = [];
      queued = replicate (length c.pins) false;
      late_checks = replicate (length c.pins) false;
      last = replicate (length c.pins) none;
      pulses = replicate (length c.outputs) 0;
      written = [];
      written_outside = replicate (length c.kinds) false;
      unions_passed = replicate (length c.kinds) false;
      breaking = false;
      runs_left = 0;
    }

-- then pure gates fresh
unfoldable pub wires_fresh : Circuit → Wires
wires_fresh c = refresh_all c (wires_stale c)

-- then every watched input waits to be checked, in ascending gate and input, and `last` is empty: its first reading counts as a change (document 02, K2)
unfoldable pub wires_at_start : Circuit → Wires
wires_at_start c = each watch (wires_fresh c) (keep (watching c) (from 0 (length c.pins)))

-- Clocks and Stopwatches at 0.0, Stopwatches stopped
unfoldable pub start : Circuit → State
start c = record { wires = wires_at_start c; delays = replicate (length c.kinds) idle; outbox = []; changed = 0 }

-- ---- the opening of a tick

-- the opening under way: a state, and what was raised so far, each with the state at that moment
pub record Opened : Type 0 where
  pub state : State
  pub raises : List (Raise State Act Place)

-- these are raised at the state s, to a list
unfoldable pub raised_to : Place → State → List Act → List (Raise State Act Place)
raised_to p s acts = map (λ a. record { at = s; act = a; place = p }) acts

-- what settling raises here waits for the main pass, however it is raised
abbrev pub pending : List (Raise State Act When) → List (Raise State Act Place)
pending rs = map (λ r. record { at = r.at; act = r.act; place = to_pending }) rs

-- n Fires of gate g
unfoldable pub fire : ℕ → ℕ → List Act
fire n g = replicate n (record { gate = g; form = form-Fire; row = [] })

-- how often bodies may be run in a tick, those of all Loops together: the source's MAX_INVOCATIONS_PER_TICK
abbrev pub most_runs : ℕ
most_runs = 100000

-- the next tick begins: its number, its length, the uptime; no Union has passed, and no body was run
unfoldable pub next_tick : Wires → ℕ → Wires
next_tick w dt =
    runs_left≔ (unions_passed≔ (times≔ w (suc w.tick) dt (plus64 w.uptime dt)) (map (λ _. false) w.unions_passed)) most_runs

-- and the outbox is emptied; the narrowing of the tick's length is counted in every tick, used or not
unfoldable pub begin_tick : State → ℕ → State
begin_tick s dt = changed≔ (outbox≔ (wires≔ s (next_tick s.wires dt)) []) (bit (narrow_changes dt))

-- `bEnabled` of nothing means enabled
unfoldable pub enabled : Value → Bool
enabled Nothing = true
enabled (Int b) = truthy (Int b)
enabled (Float b) = truthy (Float b)
enabled (Truth t) = t

module _ (c : Circuit) where
  -- an event goes to the receivers of its channel, ascending: from a SendEvent to EventCustoms, from a global one to global ones, whose kinds are 2 more
  unfoldable pub receives : ℕ → ℕ → Bool
  receives g r = eqb (kind_of_gate c r) (kind_of_gate c g + 2) && same (setting c g 1) (setting c r 0)

  -- what an event raises
  unfoldable pub delivered : Send → List Act
  delivered m = map (λ r. record { gate = r; form = form-Event; row = m.row }) (keep (receives m.gate) c.receivers)

  -- a pulse falls when raised-at + 2 ≤ tick
  unfoldable pub lower : Wires → ℕ → Wires
  lower w o =
      let at = get_or w.pulses o 0 in
      if ltb 0 at && leb (at + 2) w.tick then set_out c (pulses≔ w (set w.pulses o 0)) o (Truth false) otherwise w

  -- gate g has moved on: its row goes to its outputs from p on, then its Fires are raised
  unfoldable pub advanced : Opened → State → Place → ℕ → ℕ → Moved → Opened
  advanced z s place g p m =
      let t = count_changed (wires≔ (delay≔ c s g m.state) (set_outs c s.wires (output c g p) m.row)) m.changed in
      record { state = t; raises = z.raises ++ raised_to place t (fire m.fires g) }

  -- buffers and Queues; dt is the tick's length in f32
  unfoldable pub advance_buffer : ℕ → Opened → ℕ → Opened
  advance_buffer dt z g =
      let s = z.state in
      let k = kind_of_gate c g in
      let d = delay c s g in
      if eqb k BufferTicks || eqb k BufferSeconds then advanced z s to_late g 0 (advance_flight (λ v. countdown c g (truthy v)) dt d)
      otherwise if eqb k BufferTicksExec || eqb k BufferSecondsExec then advanced z s to_late g 0 (advance_fires dt d)
      otherwise if eqb k QueueInTicks || eqb k QueueInSeconds then advanced z s to_late g 1 (advance_records dt d)
      otherwise z

  -- the input's interval, unless it reads nothing, then the setting, then 1.0; both inputs are read, also where it is not enabled
  unfoldable pub advance_clock : Opened → ℕ → Opened
  advance_clock z g =
      let s = readied c z.state g 0 2 in
      let interval = as_float (as_float one_point_zero (setting c g 2)) (read c s g 1) in
      advanced z s to_pending g 0 (advance_elapsed s.wires.dt interval (enabled (read c s g 0)) (delay c s g))

  -- Limit is read, also where it stands still
  unfoldable pub advance_timer : Opened → ℕ → Opened
  advance_timer z g =
      let s = readied c z.state g 3 1 in
      advanced z s to_late g 0 (advance_time s.wires.dt (as_float 0 (read c s g 3)) (delay c s g))

  -- The source's order: events, stimuli, ended pulses, buffers and Queues, Clocks, Stopwatches, time sources. Stimuli, buffers, Queues and Stopwatches raise to
  -- late, events to delivered, Clocks to pending.
  abbrev pub before_settling : State → Given → Opened
  before_settling s given =
      let s₁ = begin_tick s given.dt in
      let came = raised_to to_delivered s₁ (joined (map delivered s.outbox)) ++ raised_to to_late s₁ given.stimuli in
      let s₂ = wires≔ s₁ (each lower s₁.wires (from 0 (length c.outputs))) in
      let b = each (advance_buffer (narrow given.dt)) (record { state = s₂; raises = came }) c.buffers in
      let k = each advance_clock b c.clocks in
      let t = each advance_timer k c.stopwatches in
      record { state = wires≔ t.state (each (invalidate c) t.state.wires c.time_sources); raises = t.raises }

  -- then settling, which raises to pending
  unfoldable pub open_tick : State → Given → Opened
  open_tick s given =
      let t = before_settling s given in
      let z = settle c t.state in
      record { state = z.state; raises = t.raises ++ pending z.raises }

  unfoldable pub opening_opened : ℕ
  unfolding wires_fresh wires_at_start start raised_to fire next_tick begin_tick enabled receives delivered lower advanced advance_buffer advance_clock advance_timer open_tick
  opening_opened = 0
