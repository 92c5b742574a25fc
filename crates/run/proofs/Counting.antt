-- A tick counts up the number of ticks by one: its opening does at its start, and nothing after that changes the number.
use mathlib.Core.Path.{◌≡◌, refl}
use mathlib.Core.Bool.{Bool, true}
use mathlib.Core.List.{List, []}
use mathlib.Core.Option.{Option}
use Prim.Native.Nat.{ℕ, suc}
use Rattle.schedule.specs.Schedule.{Raise, When, Outcome, Closed, plain, Activation, tick}
use Rattle.schedule.specs.Promise.{All, [·], ◌∷·◌}
use Rattle.schedule.specs.Keeping.{DidKeep}
use Rattle.schedule.proofs.Keeps.{tick_keeps}
use Rattle.schedule.proofs.Members.{all_append}
use Rattle.model.specs.declared.Value.{Value}
use Rattle.model.specs.Circuit.{Circuit, gate_at_input}
use Rattle.model.specs.Script.{Given}
use Rattle.model.specs.State.{Wires, State, Delay, Act, Send, outs≔, dirty≔, to_check≔, late_checks≔, times≔, last≔, pulses≔, written≔, written_outside≔, unions_passed≔, breaking≔, runs_left≔, wires≔, delays≔, outbox≔, changed≔}
use Rattle.model.specs.Wires.{show, soil, clean, watch, recompute, refresh_all, ready, mark_readers_for, mark_readers, invalidate, set_out, set_outs}
use Rattle.model.specs.Delays.{Started}
use Rattle.model.specs.Exec.{count_changed, Stepped, fires_next, ends, delay≔, set_output, readied, write_once, record_write, exec-Buffer, exec-Stopwatch, exec-Queue, exec-VarGet, exec-VarSet, exec-Branch, exec-Union, exec-Toggle, exec-Cycle, exec-SendEvent}
use Rattle.model.specs.Chain.{Calls, Chained}
use Rattle.model.specs.Loops.{no_unions, unions_of, runs_left_to, break_set, show_loop, run_chain}
use Rattle.model.specs.Settle.{Settled, calm, raise, taken, none_written, publish_write, publish_writes, pulse, compared, check, check_on, settle}
use Rattle.model.specs.Opening.{wires_fresh, wires_at_start, start, next_tick, begin_tick, lower, open_tick}
use Rattle.model.specs.Unit.{World, state≔, raises_in, enter, run_unit, finish_chain}
use Rattle.model.specs.Closing.{read_outputs, write, close}
use Rattle.model.specs.Run.{Allowed, opening, body, closing, machine}
use Rattle.model.proofs.Lists.{all_pass, if_both, each_keeps, map_all}
use Rattle.model.proofs.Checks.{detect_keeps}
use Rattle.model.proofs.Running.{StepsKeep, run_chain_keeps, KindsKeep, exec_gate_keeps}
use Rattle.model.proofs.Walks.{check_on_keeps, OpenedKeeps, open_tick_keeps}
use Rattle.model.proofs.Sized.{refresh_all_keeps, ready_keeps, mark_readers_for_keeps, mark_readers_keeps, set_out_keeps, set_outs_keeps}

-- ---- the number of the tick

-- the wires are those of tick n
record WiresAt (n : ℕ) (w : Wires) : Type 0 where
  number : w.tick ≡ n

-- the state is one of tick n
record StateAt (n : ℕ) (s : State) : Type 0 where
  wires : WiresAt n s.wires

module _ (c : Circuit) (n : ℕ) where
  -- ---- one change of the wires

  show_at : (w : Wires) (o : ℕ) (v : Value) → WiresAt n w → WiresAt n (show w o v)
  unfolding show outs≔
  show_at w o v z = record { number = z.number }

  soil_at : (w : Wires) (g : ℕ) → WiresAt n w → WiresAt n (soil w g)
  unfolding soil dirty≔
  soil_at w g z = record { number = z.number }

  clean_at : (w : Wires) (g : ℕ) → WiresAt n w → WiresAt n (clean w g)
  unfolding clean dirty≔
  clean_at w g z = record { number = z.number }

  to_check_at : {w : Wires} (is : List ℕ) (bs : List Bool) → WiresAt n w → WiresAt n (to_check≔ w is bs)
  unfolding to_check≔
  to_check_at is bs z = record { number = z.number }

  late_at : (w : Wires) (bs : List Bool) → WiresAt n w → WiresAt n (late_checks≔ w bs)
  unfolding late_checks≔
  late_at w bs z = record { number = z.number }

  last_at : {w : Wires} (x : List (Option Value)) → WiresAt n w → WiresAt n (last≔ w x)
  unfolding last≔
  last_at x z = record { number = z.number }

  pulses_at : {w : Wires} (x : List ℕ) → WiresAt n w → WiresAt n (pulses≔ w x)
  unfolding pulses≔
  pulses_at x z = record { number = z.number }

  written_at : {w : Wires} (x : List ℕ) → WiresAt n w → WiresAt n (written≔ w x)
  unfolding written≔
  written_at x z = record { number = z.number }

  outside_at : {w : Wires} (x : List Bool) → WiresAt n w → WiresAt n (written_outside≔ w x)
  unfolding written_outside≔
  outside_at x z = record { number = z.number }

  passed_at : {w : Wires} (x : List Bool) → WiresAt n w → WiresAt n (unions_passed≔ w x)
  unfolding unions_passed≔
  passed_at x z = record { number = z.number }

  runs_at : {w : Wires} (m : ℕ) → WiresAt n w → WiresAt n (runs_left≔ w m)
  unfolding runs_left≔
  runs_at m z = record { number = z.number }

  break_at : {w : Wires} (b : Bool) → WiresAt n w → WiresAt n (breaking≔ w b)
  unfolding breaking≔
  break_at b z = record { number = z.number }

  watch_at : (w : Wires) (i : ℕ) → WiresAt n w → WiresAt n (watch w i)
  unfolding watch
  watch_at w i z = if_both (WiresAt n) _ z (to_check_at _ _ z)

  -- ---- refreshing and marking

  recompute_at : (w : Wires) (g : ℕ) → WiresAt n w → WiresAt n (recompute c w g)
  unfolding recompute
  recompute_at w g z = clean_at _ g (show_at w _ _ z)

  refresh_all_at : (w : Wires) → WiresAt n w → WiresAt n (refresh_all c w)
  refresh_all_at = refresh_all_keeps c (WiresAt n) (λ _. Unit {0}) (λ _ _ _ _. tt) (λ w g _ z. recompute_at w g z)

  ready_at : (w : Wires) (i : ℕ) → WiresAt n w → WiresAt n (ready c w i)
  ready_at = ready_keeps c (WiresAt n) (λ _. Unit {0}) (λ _ _ _ _. tt) (λ w g _ z. recompute_at w g z)

  mark_readers_for_at : (late : Bool) (w : Wires) (o : ℕ) → WiresAt n w → WiresAt n (mark_readers_for c late w o)
  mark_readers_for_at late =
      mark_readers_for_keeps c (WiresAt n) (λ w g _ z. soil_at w g z) (λ w i _ z. watch_at w i z) late (λ _ w i z. late_at w _ z)

  mark_readers_at : (w : Wires) (o : ℕ) → WiresAt n w → WiresAt n (mark_readers c w o)
  mark_readers_at = mark_readers_keeps c (WiresAt n) (λ w g _ z. soil_at w g z) (λ w i _ z. watch_at w i z)

  invalidate_at : (w : Wires) (g : ℕ) → WiresAt n w → WiresAt n (invalidate c w g)
  unfolding invalidate
  invalidate_at w g z = mark_readers_at _ _ (soil_at w g z)

  set_out_at : (w : Wires) (o : ℕ) (v : Value) → WiresAt n w → WiresAt n (set_out c w o v)
  set_out_at = set_out_keeps c (WiresAt n) (λ w g _ z. soil_at w g z) (λ w i _ z. watch_at w i z) show_at

  set_outs_at : (w : Wires) (o : ℕ) (vs : List Value) → WiresAt n w → WiresAt n (set_outs c w o vs)
  set_outs_at = set_outs_keeps c (WiresAt n) (λ w g _ z. soil_at w g z) (λ w i _ z. watch_at w i z) show_at

  -- ---- one change of the state

  wires_at : {s : State} {w : Wires} → StateAt n s → WiresAt n w → StateAt n (wires≔ s w)
  unfolding wires≔
  wires_at z y = record { wires = y }

  delay_at : {s : State} (g : ℕ) (d : Delay) → StateAt n s → StateAt n (delay≔ c s g d)
  unfolding delay≔ delays≔
  delay_at g d z = record { wires = z.wires }

  count_at : {s : State} (changed : Bool) → StateAt n s → StateAt n (count_changed s changed)
  unfolding count_changed changed≔
  count_at changed z = record { wires = z.wires }

  outbox_at : {s : State} (x : List Send) → StateAt n s → StateAt n (outbox≔ s x)
  unfolding outbox≔
  outbox_at x z = record { wires = z.wires }

  set_output_at : {s : State} (o : ℕ) (v : Value) → StateAt n s → StateAt n (set_output c s o v)
  unfolding set_output
  set_output_at o v z = wires_at z (set_out_at _ _ _ z.wires)

  readied_at : {s : State} (g p m : ℕ) → StateAt n s → StateAt n (readied c s g p m)
  unfolding readied
  readied_at g p m z = wires_at z (each_keeps (WiresAt n) (ready c) ready_at _ _ z.wires)

  -- ---- a step of a chain, by kind

  abbrev SteppedAt : Stepped → Type 0
  SteppedAt d = StateAt n d.state

  BufferAt : (s : State) (g : ℕ) → StateAt n s → SteppedAt (exec-Buffer c s g)
  unfolding exec-Buffer ends
  BufferAt s g z = let y = count_at _ z in if_both SteppedAt _ (delay_at _ _ y) y

  StopwatchAt : (s : State) (g p : ℕ) → StateAt n s → SteppedAt (exec-Stopwatch c s g p)
  unfolding exec-Stopwatch ends
  StopwatchAt s g p z = if_both (StateAt n) _ (set_output_at _ _ (delay_at _ _ z)) (delay_at _ _ z)

  QueueAt : (s : State) (g : ℕ) (k : Value → Started) → StateAt n s → SteppedAt (exec-Queue c s g k)
  unfolding exec-Queue ends
  QueueAt s g k z = count_at _ (delay_at _ _ (readied_at _ _ _ z))

  record_write_at : {w : Wires} (inside : Bool) (o : ℕ) → WiresAt n w → WiresAt n (record_write c inside w o)
  unfolding record_write write_once
  record_write_at inside o z = let y = if_both (WiresAt n) inside z (outside_at _ z) in if_both (WiresAt n) _ y (written_at _ y)

  VarSetAt : (inside : Bool) (s : State) (g : ℕ) → StateAt n s → SteppedAt (exec-VarSet c inside s g)
  unfolding exec-VarSet fires_next
  VarSetAt inside s g z =
      let y = readied_at _ _ _ z in
      wires_at y (record_write_at inside _ (show_at _ _ _ y.wires))

  UnionAt : (s : State) (g : ℕ) → StateAt n s → SteppedAt (exec-Union c s g)
  unfolding exec-Union fires_next ends
  UnionAt s g z = if_both SteppedAt _ z (wires_at z (passed_at _ z.wires))

  SendEventAt : (s : State) (g : ℕ) → StateAt n s → SteppedAt (exec-SendEvent c s g)
  unfolding exec-SendEvent fires_next
  SendEventAt s g z = if_both (StateAt n) _ (readied_at g 2 8 z) (outbox_at _ (readied_at g 2 8 z))

  kinds_at : KindsKeep c (StateAt n)
  unfolding fires_next exec-VarGet exec-Branch exec-Toggle exec-Cycle break_set
  kinds_at =
      record {
        Buffer = BufferAt;
        Stopwatch = λ s g p k z. StopwatchAt s g p z;
        Queue = QueueAt;
        VarGet = λ s g k z. set_output_at _ _ z;
        VarSet = λ inside s g e z. VarSetAt inside s g z;
        Branch = λ s g z. readied_at _ _ _ z;
        Union = UnionAt;
        Toggle = λ s g k z. set_output_at _ _ z;
        Cycle = λ s g p k z. set_output_at _ _ (readied_at _ _ _ z);
        SendEvent = λ s g e z. SendEventAt s g z;
        Break = λ s z. wires_at z (break_at true z.wires);
      }

  -- ---- a chain, and the Loops that it runs

  steps_at : StepsKeep c (StateAt n)
  unfolding no_unions unions_of runs_left_to break_set show_loop
  steps_at =
      record {
        step = λ inside m s i z. exec_gate_keeps c (StateAt n) kinds_at inside s i z;
        loop_step = λ m s z. z;
        inputs_read = λ m s g z. readied_at g 1 3 z;
        broken = λ m s b z. wires_at z (break_at b z.wires);
        counted = λ m s k z. wires_at z (runs_at k z.wires);
        index_shown = λ m s g i k z. set_output_at _ _ z;
        body_entered = λ m s z. wires_at z (passed_at _ z.wires);
        body_left = λ m k s t z y. wires_at y (passed_at _ y.wires);
        loop_shown = λ m s g done aborted k z. set_output_at _ _ (set_output_at _ _ (set_output_at _ _ z));
      }

  run_chain_at : (left : ℕ) (q : Calls) (s : State) → StateAt n s → StateAt n (run_chain c left q s).state
  run_chain_at = run_chain_keeps c (StateAt n) steps_at

  -- ---- settling

  publish_writes_at : (w : Wires) → WiresAt n w → WiresAt n (publish_writes c w)
  unfolding publish_writes publish_write none_written
  publish_writes_at w z =
      outside_at _ (written_at [] (each_keeps (WiresAt n) (publish_write c) (λ u o. mark_readers_for_at _ u o) w w.written z))

  -- each state in which something is raised
  abbrev RaisesAt : {P : Type 0} → List (Raise State Act P) → Type 0
  RaisesAt rs = All (λ r. StateAt n r.at) rs

  record SettledAt (z : Settled) : Type 0 where
    state : StateAt n z.state
    raises : RaisesAt z.raises

  calm_at : {s : State} → StateAt n s → SettledAt (calm s)
  unfolding calm
  calm_at z = record { state = z; raises = [·] }

  raise_at : {s : State} (when : When) (g form : ℕ) → StateAt n s → SettledAt (raise when s g form)
  unfolding raise
  raise_at when g form z = record { state = z; raises = ◌∷·◌ z [·] }

  pulse_at : {w : Wires} (o : ℕ) → WiresAt n w → WiresAt n (pulse c w o)
  unfolding pulse
  pulse_at {w} o z = pulses_at _ (set_out_at w o _ z)

  check_at : (when : When) (s : State) (i : ℕ) → StateAt n s → SettledAt (check c when s i)
  unfolding check compared wires≔
  check_at when s i z =
      let y = wires_at (wires_at z (ready_at s.wires i z.wires)) (last_at _ (ready_at s.wires i z.wires)) in
      if_both SettledAt _ (calm_at y)
      (detect_keeps c SettledAt _ (gate_at_input c i) (calm_at y) (λ when form. raise_at when _ form y)
      (λ o k e u l. calm_at (wires_at y (pulse_at _ y.wires))) (λ d b. calm_at (count_at b (delay_at _ d y))) when _ _ _)

  check_on_at : (m : ℕ) (z : Settled) → SettledAt z → SettledAt (check_on c m z)
  unfolding taken
  check_on_at =
      check_on_keeps c SettledAt λ z i is e y.
      let x = check_at _ _ i (wires_at y.state (late_at _ _ (to_check_at _ _ y.state.wires))) in
      record { state = x.state; raises = all_append y.raises x.raises }

  settle_at : (s : State) → StateAt n s → SettledAt (settle c s)
  unfolding settle
  settle_at s z = check_on_at _ _ (calm_at (wires_at z (refresh_all_at s.wires z.wires)))

  -- ---- the opening of a tick

  lower_at : (w : Wires) (o : ℕ) → WiresAt n w → WiresAt n (lower c w o)
  unfolding lower
  lower_at w o z = if_both (WiresAt n) _ (set_out_at _ o _ (pulses_at _ z)) z

  -- from the moment on at which the next tick has begun
  open_tick_at : (s : State) (given : Given) → StateAt n (begin_tick s given.dt) → OpenedKeeps c (StateAt n) (open_tick c s given)
  open_tick_at =
      open_tick_keeps c {timed = λ _. true} (record {
        of = λ z. z.wires;
        put = λ z y. wires_at z y;
        delay = λ g d z. delay_at g d z;
        count = λ b z. count_at b z;
        ready = ready_at;
        set_outs = set_outs_at;
        lower = lower_at;
        invalidate = λ w g _. invalidate_at w g;
      }) (all_pass c.time_sources) (λ s z. let x = settle_at s z in (x.state, x.raises))

  -- ---- a unit, and the record

  run_unit_at : (w : World) (a : Act) → StateAt n w.state → StateAt n (run_unit c w a).state
  unfolding run_unit enter
  run_unit_at w a z = run_chain_at w.left _ _ (wires_at z (set_outs_at w.state.wires _ a.row z.wires))

  read_outputs_at : (s : State) (stop : ℕ) → StateAt n s → StateAt n (read_outputs c s stop)
  unfolding read_outputs
  read_outputs_at s stop z = if_both (StateAt n) _ (wires_at z (refresh_all_at s.wires z.wires)) z

  -- ---- worlds

  abbrev WorldAt : World → Type 0
  WorldAt w = StateAt n w.state

  raises_in_at : {P : Type 0} (w : World) (left : ℕ) (rs : List (Raise State Act P)) → RaisesAt rs → All (λ r. WorldAt r.at) (raises_in w left rs)
  unfolding raises_in state≔
  raises_in_at w left rs a = map_all _ _ a

  finish_chain_at : (w : World) (r : Chained) → StateAt n r.state → DidKeep WorldAt (finish_chain c w r)
  unfolding finish_chain state≔
  finish_chain_at w r z =
      let y = settle_at _ (wires_at z (publish_writes_at r.state.wires z.wires)) in
      if_both (DidKeep WorldAt) _ (record { world = y.state; raises = raises_in_at w r.left _ y.raises }) (record { world = z; raises = [·] })

  opening_at : (w : World) (i : Allowed) → StateAt n (begin_tick w.state i.given.dt) → DidKeep WorldAt (opening c w i)
  unfolding opening state≔
  opening_at w i z =
      let y = open_tick_at w.state i.given z in
      record { world = y.state; raises = raises_in_at w i.limit _ y.raises }

  body_at : (w : World) (a : Act) → WorldAt w → DidKeep WorldAt (body c w a)
  unfolding body
  body_at w a z = finish_chain_at w _ (run_unit_at w a z)

  closing_at : (w : World) (i : Allowed) (o : Outcome Act) → WorldAt w → WorldAt (closing c w i o).world
  unfolding closing close write state≔
  closing_at w i o z =
      let y = read_outputs_at w.state o.stop z in
      if_both (λ (k : Closed World). WorldAt k.world) _ y y

-- the next tick has the next number
begins_next : (s : State) (dt : ℕ) → StateAt (suc s.wires.tick) (begin_tick s dt)
unfolding begin_tick next_tick times≔ unions_passed≔ runs_left≔ wires≔ outbox≔ changed≔
begins_next s dt = record { wires = record { number = refl } }

-- A tick counts up the number of ticks by one, also one that is stopped.
pub tick_by_one :
    (c : Circuit) (w : World) (i : Allowed) (came : List (Activation (plain (machine c)))) →
    (tick (plain (machine c)) w i came tt).world.state.wires.tick ≡ suc w.state.wires.tick
tick_by_one c w i came =
    let n = suc w.state.wires.tick in
    (tick_keeps (plain (machine c)) (WorldAt c n) (body_at c n) (closing_at c n) w i came tt
    (opening_at c n w i (begins_next w.state i.given.dt))).world.wires.number

-- A run starts at tick 0.
pub start_at_zero : (c : Circuit) → (start c).wires.tick ≡ 0
unfolding start wires_at_start wires_fresh
start_at_zero c = (each_keeps (WiresAt 0) watch (watch_at c 0) _ _ (refresh_all_at c 0 _ (record { number = refl }))).number
