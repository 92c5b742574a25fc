-- Every operation on the state keeps it sized; so are the states in which it raises.
use mathlib.Core.Path.{◌≡◌, refl, sym, ap, ◌∙◌}
use mathlib.Core.Bool.{Bool, true, false, ◌&&◌, ◌||◌, true≢false}
use mathlib.Core.List.{List, [], ◌∷◌, map}
use mathlib.Core.Option.{Option, none}
use Prim.Native.Nat.{ℕ, ◌<◌}
use native.Mathlib.Nat.{zero-add}
use native.Mathlib.Omega.{arith}
use lib.Dec.{leb, ltb, eqb}
use lib.ListN.{length, set, length-set, length-map, length-replicate, get_or-map, get_or-eq_default}
use borrow.Author.Tests.{ltb-true, ltb-false, eqb-true, ne_eqb}
use Rattle.schedule.specs.Schedule.{Raise, When}
use Rattle.schedule.specs.Promise.{All, [·], ◌∷·◌}
use Rattle.schedule.proofs.Members.{all_append}
use Rattle.model.specs.declared.Value.{Value}
use Rattle.model.specs.declared.Value.TheVariants.{Nothing}
use Rattle.model.specs.Base.{each, snoc, among, from}
use Rattle.model.specs.Kinds.{pure, time_source}
use Rattle.model.specs.Circuit.{Circuit, most_gates, kind_of_gate, gate_at_input, watching, gates, gates_of}
use Rattle.model.specs.Script.{Given}
use Rattle.model.specs.State.{Wires, State, Delay, Act, Send, times≔, last≔, pulses≔, written≔, written_outside≔, unions_passed≔, breaking≔, runs_left≔, wires≔, delays≔, outbox≔, changed≔}
use Rattle.model.specs.Wires.{is_dirty, watch, ready, invalidate}
use Rattle.model.specs.Exec.{Stepped, fires_next, ends, count_changed, delay≔, set_output, readied, var, write_once, record_write, exec-Buffer, exec-Stopwatch, exec-Queue, exec-VarGet, exec-VarSet, exec-Branch, exec-Union, exec-Toggle, exec-Cycle, exec-SendEvent, exec_gate}
use Rattle.model.specs.Chain.{Calls}
use Rattle.model.specs.Loops.{no_unions, unions_of, runs_left_to, break_set, show_loop, run_chain}
use Rattle.model.specs.Settle.{Settled, calm, raise, none_written, publish_write, publish_writes, pulse, compared, check, check_on, settle}
use Rattle.model.specs.Opening.{wires_stale, wires_fresh, wires_at_start, start, Opened, next_tick, begin_tick, lower, before_settling, open_tick}
use Rattle.model.specs.Unit.{World, enter, run_unit}
use Rattle.model.specs.Closing.{read_outputs}
use Rattle.model.proofs.Lists.{if_both, if_by, each_keeps, each_keeps_all, all_keep, among_from, either_false}
use Rattle.model.proofs.Running.{KindsKeep, exec_gate_keeps, StepsKeep, run_chain_keeps}
use Rattle.model.proofs.Walks.{check_on_keeps, OpenedKeeps, OpeningKeeps, before_settling_keeps, open_tick_keeps}
use Rattle.model.proofs.Checks.{detect_keeps}
use Rattle.model.proofs.Laid.{Laid}
use Rattle.model.proofs.Once.{Once, empty, added, among_map}
use Rattle.model.proofs.Sized.{SizedMemory, SizedWires, Sized, show_sized, soil_sized, watch_sized, refresh_all_sized, ready_sized, mark_readers_for_sized, mark_readers_sized, set_out_sized, set_outs_sized, taken_sized}

map_snoc : {A B : Type 0} (f : A → B) (xs : List A) (x : A) → map f (snoc xs x) ≡ snoc (map f xs) (f x)
unfolding snoc
map_snoc f [] x = refl
map_snoc f (y ∷ ys) x = ap (λ (zs : List _). f y ∷ zs) (map_snoc f ys x)

module _ (c : Circuit) where
  -- ---- one field changed

  pub wires_sized : {s : State} {w : Wires} → Sized c s → SizedWires c w → Sized c (wires≔ s w)
  unfolding wires≔
  wires_sized z y = record { wires = y; delays = z.delays; outbox = z.outbox }

  delay_sized : {s : State} (g : ℕ) (d : Delay) → Sized c s → Sized c (delay≔ c s g d)
  unfolding delay≔ delays≔
  delay_sized {s} g d z = record { wires = z.wires; delays = length-set s.delays g d ∙ z.delays; outbox = z.outbox }

  changed_sized : {s : State} (n : ℕ) → Sized c s → Sized c (changed≔ s n)
  unfolding changed≔
  changed_sized n z = record { wires = z.wires; delays = z.delays; outbox = z.outbox }

  count_sized : {s : State} (b : Bool) → Sized c s → Sized c (count_changed s b)
  unfolding count_changed
  count_sized b z = changed_sized _ z

  -- what is remembered is changed
  memory_sized :
      {w : Wires} {last : List (Option Value)} {pulses written : List ℕ} {outside passed : List Bool} → SizedWires c w → SizedMemory c last pulses written outside passed →
      SizedWires c (unions_passed≔ (written_outside≔ (written≔ (pulses≔ (last≔ w last) pulses) written) outside) passed)
  unfolding unions_passed≔ written_outside≔ written≔ pulses≔ last≔ is_dirty
  memory_sized z m = record { outs = z.outs; dirty = z.dirty; queued = z.queued; late = z.late; stale = z.stale; waiting = z.waiting; asked = z.asked; memory = m }

  pub last_sized : {w : Wires} (i : ℕ) (v : Option Value) → SizedWires c w → SizedWires c (last≔ w (set w.last i v))
  unfolding unions_passed≔ written_outside≔ written≔ pulses≔ last≔
  last_sized {w} i v z =
      let m = z.memory in
      memory_sized z (record { last = length-set w.last i v ∙ m.last; pulses = m.pulses; written = m.written; outside = m.outside; passed = m.passed })

  pub pulses_sized : {w : Wires} (o t : ℕ) → SizedWires c w → SizedWires c (pulses≔ w (set w.pulses o t))
  unfolding unions_passed≔ written_outside≔ written≔ pulses≔ last≔
  pulses_sized {w} o t z =
      let m = z.memory in
      memory_sized z (record { last = m.last; pulses = length-set w.pulses o t ∙ m.pulses; written = m.written; outside = m.outside; passed = m.passed })

  written_sized : {w : Wires} (x : List ℕ) → Once (map (var c) (gates c)) x → SizedWires c w → SizedWires c (written≔ w x)
  unfolding unions_passed≔ written_outside≔ written≔ pulses≔ last≔
  written_sized x o z = let m = z.memory in memory_sized z (record { last = m.last; pulses = m.pulses; written = o; outside = m.outside; passed = m.passed })

  pub outside_sized : {w : Wires} (x : List Bool) → length x ≡ length w.written_outside → SizedWires c w → SizedWires c (written_outside≔ w x)
  unfolding unions_passed≔ written_outside≔ written≔ pulses≔ last≔
  outside_sized x e z =
      let m = z.memory in memory_sized z (record { last = m.last; pulses = m.pulses; written = m.written; outside = e ∙ m.outside; passed = m.passed })

  pub passed_sized : {w : Wires} (x : List Bool) → length x ≡ length w.unions_passed → SizedWires c w → SizedWires c (unions_passed≔ w x)
  unfolding unions_passed≔ written_outside≔ written≔ pulses≔ last≔
  passed_sized x e z = let m = z.memory in memory_sized z (record { last = m.last; pulses = m.pulses; written = m.written; outside = m.outside; passed = e ∙ m.passed })

  pub runs_sized : {w : Wires} (n : ℕ) → SizedWires c w → SizedWires c (runs_left≔ w n)
  unfolding runs_left≔ is_dirty
  runs_sized n z =
      record { outs = z.outs; dirty = z.dirty; queued = z.queued; late = z.late; stale = z.stale; waiting = z.waiting; asked = z.asked; memory = z.memory }

  pub break_sized : {w : Wires} (b : Bool) → SizedWires c w → SizedWires c (breaking≔ w b)
  unfolding breaking≔ is_dirty
  break_sized b z =
      record { outs = z.outs; dirty = z.dirty; queued = z.queued; late = z.late; stale = z.stale; waiting = z.waiting; asked = z.asked; memory = z.memory }

  outbox_sized : {s : State} (x : List Send) → Once (gates c) (map (λ (m : Send). m.gate) x) → Sized c s → Sized c (outbox≔ s x)
  unfolding outbox≔
  outbox_sized x o z = record { wires = z.wires; delays = z.delays; outbox = o }

  -- a gate that has a kind is one of the circuit's
  pub gate_in : (g : ℕ) → eqb (kind_of_gate c g) 0 ≡ false → among g (gates c) ≡ true
  unfolding kind_of_gate gates
  gate_in g e = go (ltb g (length c.kinds)) refl
    where
      go : (b : Bool) → ltb g (length c.kinds) ≡ b → among g (from 0 (length c.kinds)) ≡ true
      go true l = rw zero-add at (among_from 0 (length c.kinds) g (ltb-true g _ l))
      go false l = absurd (true≢false (rw (get_or-eq_default c.kinds 0 (ltb-false g _ l)) at e))

  set_output_sized : {s : State} (o : ℕ) (v : Value) → Sized c s → Sized c (set_output c s o v)
  unfolding set_output
  set_output_sized o v z = wires_sized z (set_out_sized c _ _ _ z.wires)

  readied_sized : {s : State} (g p n : ℕ) → Sized c s → Sized c (readied c s g p n)
  unfolding readied
  readied_sized g p n z = wires_sized z (each_keeps (SizedWires c) (ready c) (ready_sized c) _ _ z.wires)

  -- ---- a step of a chain, by kind

  abbrev SteppedSized : Stepped → Type 0
  SteppedSized d = Sized c d.state

  pub write_once_sized : {w : Wires} (g : ℕ) → eqb (kind_of_gate c g) 0 ≡ false → SizedWires c w → SizedWires c (write_once c w (var c g))
  unfolding write_once
  write_once_sized {w} g h z =
      if_by (SizedWires c) (among (var c g) w.written || leb most_gates (length w.written)) (λ _. z)
      λ e. written_sized _ (added (var c g) z.memory.written (among_map (var c) g (gates c) (gate_in g h)) (either_false (among (var c g) w.written) _ e).0) z

  pub record_write_sized :
      {w : Wires} (inside : Bool) (g : ℕ) → eqb (kind_of_gate c g) 0 ≡ false → SizedWires c w → SizedWires c (record_write c inside w (var c g))
  unfolding record_write
  record_write_sized {w} inside g h z = write_once_sized g h (if_both (SizedWires c) inside z (outside_sized _ (length-set w.written_outside _ true) z))

  -- a kind that a test names is not 0
  pub named : (k n : ℕ) → 0 < n → eqb k n ≡ true → eqb k 0 ≡ false
  named k n l e = ne_eqb k 0 (λ z. omega (arith, eqb-true k n e))

  sends : (k : ℕ) → (eqb k 24 || eqb k 25) ≡ true → eqb k 0 ≡ false
  sends k e = go (eqb k 24) refl e
    where
      go : (b : Bool) → eqb k 24 ≡ b → (b || eqb k 25) ≡ true → eqb k 0 ≡ false
      go true h e = named k 24 (omega arith) h
      go false h e = named k 25 (omega arith) e

  kinds_sized : KindsKeep c (Sized c)
  unfolding exec-Buffer exec-Stopwatch exec-Queue exec-VarGet exec-VarSet exec-Branch exec-Union exec-Toggle exec-Cycle exec-SendEvent fires_next ends readied wires≔ break_set
  kinds_sized =
      record {
        Buffer = λ s g z. let y = count_sized _ z in if_both SteppedSized _ (delay_sized _ _ y) y;
        Stopwatch = λ s g p k z. if_both (Sized c) _ (set_output_sized _ _ (delay_sized _ _ z)) (delay_sized _ _ z);
        Queue = λ s g k z. count_sized _ (delay_sized _ _ (readied_sized _ _ _ z));
        VarGet = λ s g k z. set_output_sized _ _ z;
        VarSet = λ inside s g e z.
            let y = readied_sized _ _ _ z in
            wires_sized y (record_write_sized inside g (named (kind_of_gate c g) 19 (omega arith) e) (show_sized c _ _ _ y.wires));
        Branch = λ s g z. readied_sized _ _ _ z;
        Union = λ s g z. if_both SteppedSized _ z (wires_sized z (passed_sized _ (length-set s.wires.unions_passed g true) z.wires));
        Toggle = λ s g k z. set_output_sized _ _ z;
        Cycle = λ s g p k z. set_output_sized _ _ (readied_sized _ _ _ z);
        SendEvent = λ s g e z.
            let y = readied_sized g 2 8 z in
            let gs = map (λ (m : Send). m.gate) s.outbox in
            if_by (Sized c) (among g gs || leb most_gates (length s.outbox)) (λ _. y)
            λ h. outbox_sized _ (rw map_snoc (added g z.outbox (gate_in g (sends (kind_of_gate c g) e)) (either_false (among g gs) _ h).0)) y;
        Break = λ s z. wires_sized z (break_sized true z.wires);
      }

  pub exec_gate_sized : (inside : Bool) (s : State) (i : ℕ) → Sized c s → SteppedSized (exec_gate c inside s i)
  exec_gate_sized = exec_gate_keeps c (Sized c) kinds_sized

  -- ---- a chain, and the Loops that it runs

  steps_sized : StepsKeep c (Sized c)
  unfolding no_unions unions_of runs_left_to break_set show_loop
  steps_sized =
      record {
        step = λ inside n s i z. exec_gate_sized inside s i z;
        loop_step = λ n s z. z;
        inputs_read = λ n s g z. readied_sized g 1 3 z;
        broken = λ n s b z. wires_sized z (break_sized b z.wires);
        counted = λ n s m z. wires_sized z (runs_sized m z.wires);
        index_shown = λ n s g i k z. set_output_sized _ _ z;
        body_entered = λ n s z. wires_sized z (passed_sized _ (length-map s.wires.unions_passed _) z.wires);
        body_left = λ m n s t z y. wires_sized y (passed_sized _ (z.wires.memory.passed ∙ sym y.wires.memory.passed) y.wires);
        loop_shown = λ n s g done aborted k z. set_output_sized _ _ (set_output_sized _ _ (set_output_sized _ _ z));
      }

  pub run_chain_sized : (left : ℕ) (q : Calls) (s : State) → Sized c s → Sized c (run_chain c left q s).state
  run_chain_sized = run_chain_keeps c (Sized c) steps_sized

  -- ---- settling

  pub publish_writes_sized : (w : Wires) → SizedWires c w → SizedWires c (publish_writes c w)
  unfolding publish_writes publish_write none_written written≔
  publish_writes_sized w z =
      let y = each_keeps (SizedWires c) (publish_write c) (λ u o. mark_readers_for_sized c _ u o) w w.written z in
      outside_sized _ (length-map (each (publish_write c) w w.written).written_outside _) (written_sized [] empty y)

  -- each state in which something is raised
  abbrev pub RaisesSized : {P : Type 0} → List (Raise State Act P) → Type 0
  RaisesSized rs = All (λ r. Sized c r.at) rs

  pub record SettledSized (z : Settled) : Type 0 where
    pub state : Sized c z.state
    pub raises : RaisesSized z.raises

  calm_sized : {s : State} → Sized c s → SettledSized (calm s)
  unfolding calm
  calm_sized z = record { state = z; raises = [·] }

  raise_sized : {s : State} (when : When) (g form : ℕ) → Sized c s → SettledSized (raise when s g form)
  unfolding raise
  raise_sized when g form z = record { state = z; raises = ◌∷·◌ z [·] }

  pulse_sized : {w : Wires} (o : ℕ) → SizedWires c w → SizedWires c (pulse c w o)
  unfolding pulse
  pulse_sized {w} o z = pulses_sized o _ (set_out_sized c w o _ z)

  check_sized : (when : When) (s : State) (i : ℕ) → Sized c s → SettledSized (check c when s i)
  unfolding check compared wires≔
  check_sized when s i z =
      let y = wires_sized (wires_sized z (ready_sized c s.wires i z.wires)) (last_sized i _ (ready_sized c s.wires i z.wires)) in
      if_both SettledSized _ (calm_sized y)
      (detect_keeps c SettledSized _ (gate_at_input c i) (calm_sized y) (λ when form. raise_sized when _ form y)
      (λ o k e u l. calm_sized (wires_sized y (pulse_sized _ y.wires))) (λ d b. calm_sized (count_sized b (delay_sized _ d y))) when _ _ _)

  check_on_sized : (n : ℕ) (z : Settled) → SettledSized z → SettledSized (check_on c n z)
  check_on_sized =
      check_on_keeps c SettledSized λ z i is e y.
      let x = check_sized _ _ i (wires_sized y.state (taken_sized c z.state.wires i is e y.state.wires)) in
      record { state = x.state; raises = all_append y.raises x.raises }

  pub settle_sized : (s : State) → Sized c s → SettledSized (settle c s)
  unfolding settle
  settle_sized s z = check_on_sized _ _ (calm_sized (wires_sized z (refresh_all_sized c s.wires z.wires)))

  -- ---- the start

  pub stale_sized : SizedWires c (wires_stale c)
  unfolding is_dirty pure kind_of_gate
  stale_sized =
      record {
        outs =
            each_keeps (λ (vs : List Value). length vs ≡ length c.outputs) _ (λ vs g e. length-set vs _ _ ∙ e) _ (gates_of c (λ k. eqb k 5))
            (length-replicate (length c.outputs) Nothing);
        dirty = length-map c.kinds pure;
        queued = length-replicate (length c.pins) false;
        late = length-replicate (length c.pins) false;
        stale = λ g e. sym (get_or-map pure c.kinds g 0) ∙ e;
        waiting = omega arith;
        asked = [·];
        memory =
            record {
              last = length-replicate (length c.pins) none;
              pulses = length-replicate (length c.outputs) 0;
              written = empty;
              outside = length-replicate (length c.kinds) false;
              passed = length-replicate (length c.kinds) false;
            };
      }

  pub wires_fresh_sized : SizedWires c (wires_fresh c)
  unfolding wires_fresh
  wires_fresh_sized = refresh_all_sized c (wires_stale c) stale_sized

  wires_at_start_sized : SizedWires c (wires_at_start c)
  unfolding wires_at_start
  wires_at_start_sized = each_keeps_all (SizedWires c) (watching c) watch (watch_sized c) _ _ (all_keep (watching c) _) wires_fresh_sized

  pub start_sized : Sized c (start c)
  unfolding start
  start_sized =
      record {
        wires = wires_at_start_sized;
        delays = length-replicate (length c.kinds) _;
        outbox = empty;
      }

  -- ---- the opening of a tick

  abbrev pub OpenedSized : Opened → Type 0
  OpenedSized = OpenedKeeps c (Sized c)

  pub times_sized : (w : Wires) (t x y : ℕ) → SizedWires c w → SizedWires c (times≔ w t x y)
  unfolding times≔ is_dirty
  times_sized w t x y z = record { outs = z.outs; dirty = z.dirty; queued = z.queued; late = z.late; stale = z.stale; waiting = z.waiting; asked = z.asked; memory = z.memory }

  begin_tick_sized : (s : State) (dt : ℕ) → Sized c s → Sized c (begin_tick s dt)
  unfolding begin_tick next_tick times≔
  begin_tick_sized s dt z =
      changed_sized _ (outbox_sized [] empty (wires_sized z (runs_sized _ (passed_sized _ (length-map s.wires.unions_passed _) (times_sized s.wires _ _ _ z.wires)))))

  lower_sized : (w : Wires) (o : ℕ) → SizedWires c w → SizedWires c (lower c w o)
  unfolding lower
  lower_sized w o z = if_both (SizedWires c) _ (set_out_sized c _ o _ (pulses_sized o 0 z)) z

  -- a time source is a pure gate
  pub time_pure : (k : ℕ) → time_source k ≡ true → pure k ≡ true
  unfolding pure time_source
  time_pure k h = go (eqb k 3) refl h
    where
      go : (b : Bool) → eqb k 3 ≡ b → (b || eqb k 4) ≡ true → (leb 1 k && leb k 4) ≡ true
      go true e h = rw (eqb-true k 3 e)
      go false e h = rw (eqb-true k 4 h)

  pub invalidate_sized : (w : Wires) (g : ℕ) → time_source (kind_of_gate c g) ≡ true → SizedWires c w → SizedWires c (invalidate c w g)
  unfolding invalidate
  invalidate_sized w g e z = mark_readers_sized c _ _ (soil_sized c w g (time_pure (kind_of_gate c g) e) z)

  opening_sized : OpeningKeeps c (Sized c) (SizedWires c) (λ g. time_source (kind_of_gate c g))
  opening_sized =
      record {
        of = λ z. z.wires;
        put = λ z y. wires_sized z y;
        delay = λ g d z. delay_sized g d z;
        count = λ b z. count_sized b z;
        ready = ready_sized c;
        set_outs = set_outs_sized c;
        lower = lower_sized;
        invalidate = invalidate_sized;
      }

  pub before_settling_sized : Laid c → (s : State) (given : Given) → Sized c s → OpenedSized (before_settling c s given)
  before_settling_sized laid s given z = before_settling_keeps c opening_sized laid.times s given (begin_tick_sized s given.dt z)

  pub open_tick_sized : Laid c → (s : State) (given : Given) → Sized c s → OpenedSized (open_tick c s given)
  open_tick_sized laid s given z =
      open_tick_keeps c opening_sized laid.times (λ s z. let x = settle_sized s z in (x.state, x.raises)) s given (begin_tick_sized s given.dt z)

  -- ---- a unit, and the record

  pub run_unit_sized : (w : World) (a : Act) → Sized c w.state → Sized c (run_unit c w a).state
  unfolding run_unit enter
  run_unit_sized w a z = run_chain_sized w.left _ _ (wires_sized z (set_outs_sized c w.state.wires _ a.row z.wires))

  pub read_outputs_sized : (s : State) (stop : ℕ) → Sized c s → Sized c (read_outputs c s stop)
  unfolding read_outputs
  read_outputs_sized s stop z = if_both (Sized c) _ (wires_sized z (refresh_all_sized c s.wires z.wires)) z
