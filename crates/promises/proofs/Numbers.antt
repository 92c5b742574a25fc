-- The number of a tick: its opening makes it one more, and nothing else changes it, a stop or not.
use mathlib.Core.Path.{◌≡◌, refl, ◌∙◌}
use mathlib.Core.Bool.{Bool, true}
use mathlib.Core.List.{List}
use mathlib.Core.Option.{some}
use Prim.Native.Nat.{ℕ, suc}
use lib.ListN.{set}
use Rattle.schedule.specs.Schedule.{Raise, When, Outcome, Closed, plain, Activation, tick}
use Rattle.schedule.specs.Promise.{All, [·], ◌∷·◌}
use Rattle.schedule.specs.Keeping.{DidKeep}
use Rattle.schedule.proofs.Keeps.{tick_keeps}
use Rattle.schedule.proofs.Members.{all_append}
use Rattle.model.specs.declared.Value.{Value}
use Rattle.model.specs.Base.{from}
use Rattle.model.specs.Circuit.{Circuit, input, gate_at_input}
use Rattle.model.specs.Script.{Given}
use Rattle.model.specs.State.{Wires, State, Act, outs≔, dirty≔, times≔, late_checks≔, to_check≔, last≔, pulses≔, written≔, written_outside≔, unions_passed≔, breaking≔, runs_left≔, wires≔, delays≔, outbox≔, changed≔}
use Rattle.model.specs.Wires.{show, clean, watch, look, recompute, ready, refresh_all, invalidate, set_out, set_outs}
use Rattle.model.specs.Exec.{Stepped, fires_next, ends, count_changed, delay≔, set_output, readied, write_once, record_write, exec-Buffer, exec-Stopwatch, exec-Queue, exec-VarGet, exec-VarSet, exec-Branch, exec-Union, exec-Toggle, exec-Cycle, exec-SendEvent}
use Rattle.model.specs.Loops.{no_unions, unions_of, runs_left_to, break_set, show_loop}
use Rattle.model.specs.Settle.{Settled, calm, raise, taken, none_written, publish_write, publish_writes, pulse, compared, check, settle}
use Rattle.model.specs.Opening.{wires_stale, wires_fresh, wires_at_start, start, next_tick, begin_tick, lower, open_tick}
use Rattle.model.specs.Unit.{World, state≔, raises_in, enter, run_unit, finish_chain}
use Rattle.model.specs.Closing.{read_outputs, write, close}
use Rattle.model.specs.Run.{Allowed, opening, body, closing, machine, world_at_start}
use Rattle.model.proofs.Lists.{if_both, each_keeps, all_pass, map_all}
use Rattle.model.proofs.Sized.{refresh_all_keeps, ready_keeps, set_out_keeps, set_outs_keeps}
use Rattle.model.proofs.Checks.{detect_keeps}
use Rattle.model.proofs.Running.{KindsKeep, exec_gate_keeps, StepsKeep, run_chain_keeps}
use Rattle.model.proofs.Walks.{check_on_keeps, OpenedKeeps, OpeningKeeps, open_tick_keeps}
use Rattle.model.proofs.Fine.{Alike, soil_alike, watch_alike, marked_alike, marked_for_alike}

module _ (c : Circuit) (n : ℕ) where
  -- wires in tick n
  record InTick (w : Wires) : Type 0 where
    number : w.tick ≡ n

  alike_in : {w v : Wires} → Alike w v → InTick w → InTick v
  alike_in a p = record { number = a.apart.tick ∙ p.number }

  -- ---- the wires

  show_in : (w : Wires) (o : ℕ) (v : Value) → InTick w → InTick (show w o v)
  unfolding show outs≔
  show_in w o v p = record { number = p.number }

  recompute_in : (w : Wires) (g : ℕ) → Unit {0} → InTick w → InTick (recompute c w g)
  unfolding recompute show clean outs≔ dirty≔
  recompute_in w g _ p = record { number = p.number }

  refresh_all_in : (w : Wires) → InTick w → InTick (refresh_all c w)
  refresh_all_in = refresh_all_keeps c InTick (λ _. Unit {0}) (λ w p g e. tt) recompute_in

  ready_in : (w : Wires) (i : ℕ) → InTick w → InTick (ready c w i)
  ready_in = ready_keeps c InTick (λ _. Unit {0}) (λ w p g e. tt) recompute_in

  set_out_in : (w : Wires) (o : ℕ) (v : Value) → InTick w → InTick (set_out c w o v)
  set_out_in = set_out_keeps c InTick (λ w g e. alike_in (soil_alike w g)) (λ w i q. alike_in (watch_alike w i)) show_in

  set_outs_in : (w : Wires) (o : ℕ) (vs : List Value) → InTick w → InTick (set_outs c w o vs)
  set_outs_in = set_outs_keeps c InTick (λ w g e. alike_in (soil_alike w g)) (λ w i q. alike_in (watch_alike w i)) show_in

  write_in : (inside : Bool) (w : Wires) (o : ℕ) → InTick w → InTick (record_write c inside w o)
  unfolding record_write write_once written≔ written_outside≔
  write_in inside w o p =
      let q = if_both InTick inside p (record { number = p.number }) in
      if_both InTick _ q (record { number = q.number })

  publish_in : (w : Wires) → InTick w → InTick (publish_writes c w)
  unfolding publish_writes publish_write none_written written≔ written_outside≔
  publish_in w p = let q = each_keeps InTick (publish_write c) (λ u o. alike_in (marked_for_alike c _ u o)) w w.written p in record { number = q.number }

  pulse_in : (w : Wires) (o : ℕ) → InTick w → InTick (pulse c w o)
  unfolding pulse pulses≔
  pulse_in w o p = record { number = (set_out_in w o _ p).number }

  lower_in : (w : Wires) (o : ℕ) → InTick w → InTick (lower c w o)
  unfolding lower pulses≔
  lower_in w o p = if_both InTick _ (set_out_in _ o _ (record { number = p.number })) p

  invalidate_in : (w : Wires) (g : ℕ) → true ≡ true → InTick w → InTick (invalidate c w g)
  unfolding invalidate
  invalidate_in w g _ p = alike_in (marked_alike c _ _) (alike_in (soil_alike w g) p)

  readied_in : (s : State) (g p m : ℕ) → InTick s.wires → InTick (readied c s g p m).wires
  unfolding readied wires≔
  readied_in s g p m z = each_keeps InTick (ready c) ready_in s.wires (from (input c g p) m) z

  passed_in : (w : Wires) (x : List Bool) → InTick w → InTick (unions_passed≔ w x)
  unfolding unions_passed≔
  passed_in w x p = record { number = p.number }

  breaking_in : (w : Wires) (b : Bool) → InTick w → InTick (breaking≔ w b)
  unfolding breaking≔
  breaking_in w b p = record { number = p.number }

  -- ---- a chain, and the Loops that it runs

  abbrev StateIn : State → Type 0
  StateIn s = InTick s.wires

  abbrev SteppedIn : Stepped → Type 0
  SteppedIn d = StateIn d.state

  kinds_in : KindsKeep c StateIn
  unfolding exec-Buffer exec-Stopwatch exec-Queue exec-VarGet exec-VarSet exec-Branch exec-Union exec-Toggle exec-Cycle exec-SendEvent fires_next ends break_set set_output delay≔ delays≔ count_changed changed≔ outbox≔ wires≔
  kinds_in =
      record {
        Buffer = λ s g z. if_both SteppedIn _ z z;
        Stopwatch = λ s g p k z. if_both StateIn _ (set_out_in _ _ _ z) z;
        Queue = λ s g k z. readied_in s _ _ _ z;
        VarGet = λ s g k z. set_out_in _ _ _ z;
        VarSet = λ inside s g e z. write_in inside _ _ (show_in _ _ _ (readied_in s _ 2 1 z));
        Branch = λ s g z. readied_in s _ _ _ z;
        Union = λ s g z. if_both SteppedIn _ z (passed_in _ _ z);
        Toggle = λ s g k z. set_out_in _ _ _ z;
        Cycle = λ s g p k z. set_out_in _ _ _ (readied_in s _ _ _ z);
        SendEvent = λ s g e z. if_both StateIn _ (readied_in s _ _ _ z) (readied_in s _ _ _ z);
        Break = λ s z. breaking_in _ true z;
      }

  steps_in : StepsKeep c StateIn
  unfolding no_unions unions_of runs_left_to break_set show_loop set_output runs_left≔ wires≔
  steps_in =
      record {
        step = λ inside n s i z. exec_gate_keeps c StateIn kinds_in inside s i z;
        loop_step = λ n s z. z;
        inputs_read = λ n s g z. readied_in s g 1 3 z;
        broken = λ n s b z. breaking_in _ b z;
        counted = λ n s m z. record { number = z.number };
        index_shown = λ n s g i k z. set_out_in _ _ _ z;
        body_entered = λ n s z. passed_in _ _ z;
        body_left = λ m n s t z y. passed_in _ _ y;
        loop_shown = λ n s g done aborted k z. set_out_in _ _ _ (set_out_in _ _ _ (set_out_in _ _ _ z));
      }

  -- ---- settling

  record SettledIn (z : Settled) : Type 0 where
    state : StateIn z.state
    raises : All (λ (r : Raise State Act When). StateIn r.at) z.raises

  calm_in : (s : State) → StateIn s → SettledIn (calm s)
  unfolding calm
  calm_in s z = record { state = z; raises = [·] }

  check_in : (when : When) (s : State) (i : ℕ) → StateIn s → SettledIn (check c when s i)
  unfolding check compared raise count_changed changed≔ delay≔ delays≔ wires≔ last≔
  check_in when s i z =
      let p = ready_in s.wires i z in
      let y : InTick (last≔ (ready c s.wires i) (set (ready c s.wires i).last i (some (look c (ready c s.wires i) i)))) = record { number = p.number } in
      if_both SettledIn _ (calm_in _ y)
      (detect_keeps c SettledIn _ (gate_at_input c i) (calm_in _ y) (λ when form. record { state = y; raises = ◌∷·◌ y [·] }) (λ o k e u l. calm_in _ (pulse_in _ _ y))
      (λ d b. calm_in _ y) when _ _ _)

  settle_in : (s : State) → StateIn s → SettledIn (settle c s)
  unfolding settle taken to_check≔ late_checks≔ wires≔
  settle_in s z =
      check_on_keeps c SettledIn (λ z i is e y.
      let x = check_in _ _ i (record { number = y.state.number }) in
      record { state = x.state; raises = all_append y.raises x.raises }) _ _ (calm_in _ (refresh_all_in s.wires z))

  -- ---- the opening of a tick

  opening_keeps : OpeningKeeps c StateIn InTick (λ _. true)
  unfolding delay≔ delays≔ count_changed changed≔ wires≔
  opening_keeps =
      record {
        of = λ z. z;
        put = λ z p. p;
        delay = λ g d z. z;
        count = λ b z. z;
        ready = ready_in;
        set_outs = set_outs_in;
        lower = lower_in;
        invalidate = invalidate_in;
      }

  open_tick_in : (s : State) (given : Given) → suc s.wires.tick ≡ n → OpenedKeeps c StateIn (open_tick c s given)
  unfolding begin_tick next_tick times≔ unions_passed≔ runs_left≔ wires≔ outbox≔ changed≔
  open_tick_in s given e =
      open_tick_keeps c opening_keeps (all_pass c.time_sources) (λ s z. let x = settle_in s z in (x.state, x.raises)) s given (record { number = e })

  -- ---- worlds

  abbrev WorldIn : World → Type 0
  WorldIn w = StateIn w.state

  raises_world : {P : Type 0} (w : World) (left : ℕ) (rs : List (Raise State Act P)) → All (λ r. StateIn r.at) rs → All (λ r. WorldIn r.at) (raises_in w left rs)
  unfolding raises_in state≔
  raises_world w left rs a = map_all _ _ a

  opening_in : (w : World) (i : Allowed) → suc w.state.wires.tick ≡ n → DidKeep WorldIn (opening c w i)
  unfolding opening state≔
  opening_in w i e = let y = open_tick_in w.state i.given e in record { world = y.state; raises = raises_world w i.limit _ y.raises }

  body_in : (w : World) (a : Act) → WorldIn w → DidKeep WorldIn (body c w a)
  unfolding body run_unit enter finish_chain state≔ wires≔
  body_in w a z =
      let r = run_unit c w a in
      let x = run_chain_keeps c StateIn steps_in w.left _ _ (set_outs_in _ _ a.row z) in
      let y = settle_in _ (publish_in r.state.wires x) in
      if_both (DidKeep WorldIn) _ (record { world = y.state; raises = raises_world w r.left _ y.raises }) (record { world = x; raises = [·] })

  closing_in : (w : World) (i : Allowed) (o : Outcome Act) → WorldIn w → WorldIn (closing c w i o).world
  unfolding closing close write state≔ read_outputs wires≔
  closing_in w i o z =
      let y = if_both (λ (s : State). InTick s.wires) _ (refresh_all_in w.state.wires z) z in
      if_both (λ (k : Closed World). InTick k.world.state.wires) _ y y

-- a tick's number is one more than the one before
pub tick_numbered :
    (c : Circuit) (w : World) (i : Allowed) (came : List (Activation (plain (machine c)))) (t : Unit {0}) →
    (tick (plain (machine c)) w i came t).world.state.wires.tick ≡ suc w.state.wires.tick
tick_numbered c w i came t =
    let n = suc w.state.wires.tick in
    (tick_keeps (plain (machine c)) (WorldIn c n) (body_in c n) (closing_in c n) w i came t (opening_in c n w i refl)).world.number

-- and a run begins with 0
pub start_number : (c : Circuit) (room : ℕ) → (world_at_start c room).state.wires.tick ≡ 0
unfolding world_at_start start wires_at_start wires_fresh
start_number c room =
    (each_keeps (InTick c 0) watch (λ w i. alike_in c 0 (watch_alike w i)) _ _ (refresh_all_in c 0 (wires_stale c) (record { number = refl }))).number
