-- The start of a run, and the opening of a tick, which raises only units that a record may have.
use mathlib.Core.Path.{◌≡◌, refl, sym, subst}
use mathlib.Core.Logic.{◌⊎◌, inl, inr}
use mathlib.Core.Bool.{true, false, ◌&&◌, ◌||◌}
use mathlib.Core.List.{List, [], ◌∷◌, map}
use mathlib.Core.Option.{Option, none, some}
use Prim.Native.Nat.{ℕ, zero, suc, ◌+◌, ◌<◌}
use native.Mathlib.Omega.{arith}
use lib.Dec.{leb, ltb, eqb}
use lib.Ieee.{of_bits, le}
use lib.ListN.{length, get_or, length-map}
use borrow.Author.Tests.{eqb-true, ltb-true}
use Rattle.schedule.specs.Schedule.{Raise, Place, to_late, to_delivered}
use Rattle.schedule.specs.Promise.{All, [·], ◌∷·◌}
use Rattle.schedule.proofs.Members.{all_append}
use Rattle.model.specs.declared.Value.{Value}
use Rattle.model.specs.declared.Value.TheVariants.{Nothing, Bool as Truth}
use Rattle.model.specs.Base.{each, all, joined, from}
use Rattle.model.specs.Value.{le64}
use Rattle.model.specs.Kinds.{fires, receiving, time_source, kinds_opened}
use Rattle.model.specs.Circuit.{Circuit, kind_of_gate, input, output, setting, stored_in, watching, gates_of, gates_such}
use Rattle.model.specs.Script.{Given}
use Rattle.model.specs.State.{Wires, State, Act, Send, Flight, idle, flight≔, times≔, unions_passed≔, runs_left≔}
use Rattle.model.specs.Wires.{watch, invalidate}
use Rattle.model.specs.Delays.{Started, Moved, moved, tick_down, due, launch, landed, flown, advance_flight}
use Rattle.model.specs.Opening.{wires_stale, wires_fresh, wires_at_start, start, Opened, raised_to, fire, next_tick, begin_tick, delivered, lower, advanced, advance_buffer, advance_clock, advance_timer, open_tick}
use Rattle.model.specs.Questions.{value_output, within, finite, good_length}
use Rattle.model.proofs.Lists.{if_both, if_by, both_true, either_true, each_keeps, each_keeps_all, all_keep, map_all, all_same, places_set}
use Rattle.model.proofs.Kept.{stale_sized, passed_sized, runs_sized, times_sized, invalidate_sized}
use Rattle.model.proofs.Underway.{Row, MovedOn, idle_held, advance_flight_held, advance_fires_held, advance_records_held, advance_elapsed_held, advance_time_held, delay_held, outbox_held, changed_held, count_held, delay_of, SendsHeld}
use Rattle.model.proofs.Scripts.{GivenSo}
use Rattle.model.proofs.Starting.{kept_all, invalidate_alike}
use Rattle.records.specs.Whole.{firing}
use Rattle.promises.proofs.Times.{Time, Length, time_zero, plus_time, length_good, limit_reached}
use Rattle.promises.proofs.Values.{Proper, time_proper, At, as_float_word}
use Rattle.promises.proofs.Shape.{Shaped, value_at, values_at}
use Rattle.promises.proofs.Wires.{Tells, alike_same, tells_as, watch_tells, set_out_tells, set_outs_tells, pulses_tells, refresh_all_tells}
use Rattle.promises.proofs.States.{DelayProper, Holds, wires_holds, readied_holds, read_proper}
use Rattle.promises.proofs.Settles.{Fitting, bare, fire_good, event_good, RaisesFit, settle_holds}

-- what a tick is given
abbrev pub GivenGood : Circuit → Given → Type 0
GivenGood c = GivenSo Length (Fitting c)

-- a value buffer fires nothing
flight_calm : (start : Value → Started) (dt : ℕ) (d : _) → (advance_flight start dt d).fires ≡ 0
unfolding advance_flight flown landed moved
flight_calm start dt d = go d.flight
  where
    on : (x : Option Value) (v : Value) → (elim x as (λ _. Moved) [
      | none ↦ moved (flight≔ d none none) (v ∷ []) 0
      | some u ↦ record { state = flight≔ d (launch u (start u).left) none; row = v ∷ []; fires = 0; changed = (start u).changed }
    ]).fires ≡ 0
    on none v = refl
    on (some u) v = refl

    go : (x : Option Flight) → (elim x as (λ _. Moved) [ none ↦ moved d [] 0 | some y ↦ flown start d y.what (tick_down dt y.left) ]).fires ≡ 0
    go none = refl
    go (some y) = if_both (λ (m : Moved). m.fires ≡ 0) (due (tick_down dt y.left)) (on d.later y.what) refl

zero_length : Length 0
unfolding good_length finite of_bits le64 le
zero_length = length_good 0 (omega arith) refl

module _ (c : Circuit) (Z : Shaped c) where
  -- ---- the start

  -- each Var its initial, other outputs nothing
  stale_tells : Tells c (wires_stale c)
  unfolding setting gates_of gates_such kind_of_gate kinds_opened
  stale_tells =
      record {
        sized = stale_sized c;
        outs =
            each_keeps_all (λ (vs : List Value). (o : ℕ) → At c o (get_or vs o Nothing)) (λ g. eqb (kind_of_gate c g) 5) _
            (λ vs g e k. places_set (At c) vs (output c g 0) (stored_in c (input c g 0)) Nothing (inr (value_at c Z.wired.laid g 5 0 (eqb-true _ 5 e) refl, Z.stored (input c g 0))) k)
            _ _ (all_keep (λ g. eqb (get_or c.kinds g 0) 5) (from 0 (length c.kinds))) (λ o. inl (all_same (length c.outputs) o Nothing));
        dt = zero_length;
        uptime = time_zero;
        pulses = λ o l. absurd (omega (arith, l, all_same {A = ℕ} (length c.outputs) o 0));
      }

  wires_at_start_tells : Tells c (wires_at_start c)
  unfolding wires_at_start wires_fresh
  wires_at_start_tells =
      each_keeps_all (Tells c) (watching c) watch (watch_tells c) _ _ (all_keep (watching c) _) (refresh_all_tells c Z (wires_stale c) stale_tells)

  pub start_holds : Holds c (start c)
  unfolding start
  start_holds =
      record {
        wires = wires_at_start_tells;
        delays = λ g. subst DelayProper (sym (all_same (length c.kinds) g idle)) (idle_held time_zero);
        outbox = [·];
      }

  -- ---- the next tick

  next_tick_tells : (w : Wires) (dt : ℕ) → Length dt → Tells c w → Tells c (next_tick w dt)
  unfolding next_tick times≔ unions_passed≔ runs_left≔
  next_tick_tells w dt q f =
      record {
        sized = runs_sized c _ (passed_sized c _ (length-map w.unions_passed _) (times_sized c w _ _ _ f.sized));
        outs = f.outs;
        dt = q;
        uptime = plus_time w.uptime dt f.uptime q;
        pulses = f.pulses;
      }

  begin_tick_holds : (s : State) (dt : ℕ) → Length dt → Holds c s → Holds c (begin_tick s dt)
  unfolding begin_tick
  begin_tick_holds s dt q z = changed_held _ (outbox_held [] [·] (wires_holds c z (next_tick_tells s.wires dt q z.wires)))

  -- ---- what came

  -- n outputs of gate g from p on show values
  abbrev ShowsFrom : ℕ → ℕ → ℕ → Type 0
  ShowsFrom p n g = (i : ℕ) → i < n → value_output c (output c g p + i) ≡ true

  abbrev Fires : ℕ → Type 0
  Fires g = firing (kind_of_gate c g) ≡ true

  -- what holds of a gate of either of two kinds
  either_kind : (P : ℕ → Type 0) (a b g : ℕ) → (eqb (kind_of_gate c g) a || eqb (kind_of_gate c g) b) ≡ true → (kind_of_gate c g ≡ a → P g) → (kind_of_gate c g ≡ b → P g) → P g
  either_kind P a b g e p q = go (either_true (eqb (kind_of_gate c g) a) _ e)
    where
      go : (eqb (kind_of_gate c g) a ≡ true) ⊎ (eqb (kind_of_gate c g) b ≡ true) → P g
      go (inl h) = p (eqb-true _ a h)
      go (inr h) = q (eqb-true _ b h)

  receiver_shows : (g : ℕ) → receiving (kind_of_gate c g) ≡ true → ShowsFrom 1 8 g
  unfolding receiving kinds_opened all from
  receiver_shows g e = either_kind (ShowsFrom 1 8) 26 27 g e (λ q. values_at c Z.wired.laid g 26 1 8 q refl) (λ q. values_at c Z.wired.laid g 27 1 8 q refl)

  delivered_fit : (m : Send) → Row Proper m.row → All (Fitting c) (delivered c m)
  unfolding delivered
  delivered_fit m r =
      kept_all c Z.wired [] (Fitting c) _ (λ g. receiving (kind_of_gate c g)) _
      (λ g e. record { unit = event_good c g e; others = λ k l. receiver_shows g e k (omega (arith, r.few)); row = r.each }) c.receivers Z.wired.receivers

  all_delivered : (ms : List Send) → SendsHeld Proper ms → All (Fitting c) (joined (map (delivered c) ms))
  unfolding joined
  all_delivered [] [·] = [·]
  all_delivered (m ∷ ms) (◌∷·◌ r a) = all_append (delivered_fit m r) (all_delivered ms a)

  raised_fit : (p : Place) (s : State) (acts : List Act) → All (Fitting c) acts → RaisesFit c (raised_to p s acts)
  unfolding raised_to
  raised_fit p s acts a = map_all (λ (r : Raise State Act Place). Fitting c r.act) _ a

  -- ---- ended pulses

  lower_tells : (w : Wires) (o : ℕ) → Tells c w → Tells c (lower c w o)
  unfolding lower
  lower_tells w o f =
      if_by (Tells c) (ltb 0 (get_or w.pulses o 0) && leb (get_or w.pulses o 0 + 2) w.tick)
      (λ e. let u = f.pulses o (ltb-true 0 _ (both_true (ltb 0 (get_or w.pulses o 0)) _ e).0) in
      set_out_tells c _ o (Truth false) u tt (pulses_tells c w o 0 u f)) (λ _. f)

  -- ---- what moves on

  pub record OpenedHolds (z : Opened) : Type 0 where
    pub state : Holds c z.state
    pub raises : RaisesFit c z.raises

  fires_fit : (n g : ℕ) → (n ≡ 0) ⊎ Fires g → All (Fitting c) (fire n g)
  unfolding fire
  fires_fit zero g h = [·]
  fires_fit (suc n) g (inl e) = absurd (omega (arith, e))
  fires_fit (suc n) g (inr e) = ◌∷·◌ (bare c g 0 (fire_good c g e)) (fires_fit n g (inr e))

  -- a gate with n value outputs from p on
  advanced_holds :
      (z : Opened) (s : State) (place : Place) (g p n : ℕ) (m : Moved) → OpenedHolds z → Holds c s → MovedOn Proper Time n m →
      ShowsFrom p n g → (m.fires ≡ 0) ⊎ Fires g → OpenedHolds (advanced c z s place g p m)
  unfolding advanced
  advanced_holds z s place g p n m y x f k h =
      record {
        state =
            count_held m.changed (wires_holds c (delay_held c g m.state f.state x)
            (set_outs_tells c m.row s.wires (output c g p) (λ i j. k i (omega (arith, j, f.few))) f.each x.wires));
        raises = all_append y.raises (raised_fit place _ (fire m.fires g) (fires_fit m.fires g h));
      }

  advance_buffer_holds : (dt : ℕ) (z : Opened) (g : ℕ) → OpenedHolds z → OpenedHolds (advance_buffer c dt z g)
  unfolding advance_buffer kinds_opened firing within all from
  advance_buffer_holds dt z g y =
      let k = kind_of_gate c g in
      let s = y.state in
      let d = delay_of c z.state s g in
      if_by OpenedHolds (eqb k 10 || eqb k 12)
      (λ e. advanced_holds z _ _ g 0 1 _ y s (advance_flight_held _ dt _ d)
      (either_kind (ShowsFrom 0 1) 10 12 g e (λ q. values_at c Z.wired.laid g 10 0 1 q refl) (λ q. values_at c Z.wired.laid g 12 0 1 q refl))
      (inl (flight_calm _ dt _)))
      λ _. if_by OpenedHolds (eqb k 11 || eqb k 13)
      (λ e. advanced_holds z _ _ g 0 0 _ y s (advance_fires_held dt _ d) (λ i m. absurd (omega arith))
      (inr (either_kind Fires 11 13 g e (λ q. rw q refl) (λ q. rw q refl))))
      λ _. if_by OpenedHolds (eqb k 16 || eqb k 17)
      (λ e. advanced_holds z _ _ g 1 8 _ y s (advance_records_held dt _ d)
      (either_kind (ShowsFrom 1 8) 16 17 g e (λ q. values_at c Z.wired.laid g 16 1 8 q refl) (λ q. values_at c Z.wired.laid g 17 1 8 q refl))
      (inr (either_kind Fires 16 17 g e (λ q. rw q refl) (λ q. rw q refl))))
      λ _. y

  advance_clock_holds : (z : Opened) (g : ℕ) → eqb (kind_of_gate c g) 14 ≡ true → OpenedHolds z → OpenedHolds (advance_clock c z g)
  unfolding advance_clock firing within
  advance_clock_holds z g e y =
      let s = readied_holds c Z g 0 2 y.state in
      let d = delay_of c _ s g in
      advanced_holds z _ _ g 0 0 _ y s (advance_elapsed_held time_zero _ _ _ _ (plus_time _ _ d.elapsed s.wires.dt) d) (λ i m. absurd (omega arith))
      (inr (rw (eqb-true (kind_of_gate c g) 14 e) refl))

  advance_timer_holds : (z : Opened) (g : ℕ) → eqb (kind_of_gate c g) 15 ≡ true → OpenedHolds z → OpenedHolds (advance_timer c z g)
  unfolding advance_timer kinds_opened firing within all from
  advance_timer_holds z g e y =
      let s = readied_holds c Z g 3 1 y.state in
      let d = delay_of c _ s g in
      let t = plus_time _ _ d.elapsed s.wires.dt in
      advanced_holds z _ _ g 0 1 _ y s
      (advance_time_held _ _ _ (λ h. limit_reached _ _ (as_float_word _ (read_proper c Z _ g 3 s)) h t) t time_proper d)
      (values_at c Z.wired.laid g 15 0 1 (eqb-true _ 15 e) refl) (inr (rw (eqb-true (kind_of_gate c g) 15 e) refl))

  invalidate_tells : (w : Wires) (g : ℕ) → time_source (kind_of_gate c g) ≡ true → Tells c w → Tells c (invalidate c w g)
  invalidate_tells w g e f = tells_as c (alike_same (invalidate_alike c Z.wired [] w g)) (invalidate_sized c w g e f.sized) f

  -- ---- all of it

  pub open_tick_holds : (s : State) (given : Given) → GivenGood c given → Holds c s → OpenedHolds (open_tick c s given)
  unfolding open_tick
  open_tick_holds s given q z =
      let z₁ = begin_tick_holds s given.dt q.length z in
      let came = all_append (raised_fit to_delivered _ _ (all_delivered s.outbox z.outbox)) (raised_fit to_late _ given.stimuli q.stimuli) in
      let z₂ = wires_holds c z₁ (each_keeps (Tells c) (lower c) lower_tells _ (from 0 (length c.outputs)) z₁.wires) in
      let b = each_keeps OpenedHolds (advance_buffer c _) (advance_buffer_holds _) _ c.buffers (record { state = z₂; raises = came }) in
      let k = each_keeps_all OpenedHolds (λ g. eqb (kind_of_gate c g) 14) (advance_clock c) advance_clock_holds _ c.clocks Z.clocks b in
      let t = each_keeps_all OpenedHolds (λ g. eqb (kind_of_gate c g) 15) (advance_timer c) advance_timer_holds _ c.stopwatches Z.wired.stopwatches k in
      let w = each_keeps_all (Tells c) (λ g. time_source (kind_of_gate c g)) (invalidate c) invalidate_tells _ _ Z.wired.laid.times t.state.wires in
      let x = settle_holds c Z _ (wires_holds c t.state w) in
      record { state = x.state; raises = all_append t.raises (map_all (λ (r : Raise State Act Place). Fitting c r.act) _ x.raises) }
