-- Two states that differ at most in which pure gates are stale and in what pure gates show open a tick alike: to the same state, and with the same raisings, but for
-- the states at which these were made.
use mathlib.Core.Path.{◌≡◌, refl, sym, ap, subst}
use mathlib.Core.Bool.{true, ◌||◌}
use mathlib.Core.List.{List, [], ◌∷◌, ◌++◌, map}
use Prim.Native.Nat.{ℕ, ◌+◌, ◌<◌}
use native.Mathlib.Omega.{arith}
use lib.Dec.{eqb}
use lib.ListN.{length, get_or, set}
use borrow.Author.Tests.{eqb-true}
use Rattle.schedule.specs.Schedule.{Raise, Place, to_late, to_delivered, to_pending}
use Rattle.schedule.specs.Promise.{All}
use Rattle.schedule.specs.Keeping.{RaisesAlike, alike_none, alike_next}
use Rattle.schedule.proofs.Members.{all_append}
use Rattle.model.specs.Base.{each, joined, among, from}
use Rattle.model.specs.Value.{truthy, as_float, narrow, one_point_zero}
use Rattle.model.specs.Kinds.{kinds_opened}
use Rattle.model.specs.Circuit.{Circuit, kind_of_gate, input, output, setting}
use Rattle.model.specs.Script.{Given}
use Rattle.model.specs.State.{Delay, idle, State, Act, Send, wires≔, delays≔, outbox≔, changed≔}
use Rattle.model.specs.Wires.{refresh_all}
use Rattle.model.specs.Delays.{Moved, advance_flight, advance_fires, advance_records, advance_elapsed, advance_time}
use Rattle.model.specs.Exec.{tally, count_changed, delay, delay≔, readied, read, countdown}
use Rattle.model.specs.Settle.{Settled, calm, check_on, most_checks, settle}
use Rattle.model.specs.Opening.{Opened, raised_to, pending, fire, begin_tick, enabled, delivered, lower, advanced, advance_buffer, advance_clock, advance_timer, before_settling, open_tick}
use Rattle.model.specs.Questions.{finite}
use Rattle.model.proofs.Lists.{if_alike, each_alike, all_pass, among_from}
use Rattle.model.proofs.Reals.{zero_real, plus_real, as_float_real}
use Rattle.model.proofs.Wired.{Wired}
use Rattle.model.proofs.Right.{Except, no_exception, until_timed, Other}
use Rattle.model.proofs.Fine.{not_apart}
use Rattle.model.proofs.Underway.{advance_flight_held, advance_fires_held, advance_records_held, advance_elapsed_held, advance_time_held, delay_of}
use Rattle.model.proofs.Sound.{MovedFine, Sound, Brings, wires_sound, other_outputs, readied_sound, read_is_real}
use Rattle.model.proofs.Starting.{GivenFine, OpenedSound, begin_tick_sound, raised_brings, all_delivered, advance_buffer_sound, advance_clock_sound, advance_timer_sound, buffer_other, queue_others}
use Rattle.model.proofs.Twins.{Near, Twin, set_outs_twin, lower_twin, next_tick_twin, readied_twins, invalidated_same}

-- ---- raisings

pub alike_append :
    {W A P : Type 0} {R : W → W → Type 0} {xs ys us vs : List (Raise W A P)} → RaisesAlike R xs us → RaisesAlike R ys vs → RaisesAlike R (xs ++ ys) (us ++ vs)
alike_append alike_none b = b
alike_append (alike_next r e f a) b = alike_next r e f (alike_append a b)

pub alike_itself : {W A P : Type 0} {R : W → W → Type 0} → ((w : W) → R w w) → (xs : List (Raise W A P)) → RaisesAlike R xs xs
alike_itself k [] = alike_none
alike_itself k (x ∷ xs) = alike_next (k x.at) refl refl (alike_itself k xs)

-- what a record's head says of a state: the tick, and how many narrowings changed their number
pub record SameHead (s v : State) : Type 0 where
  pub tick : v.wires.tick ≡ s.wires.tick
  pub changed : v.changed ≡ s.changed

raised_alike : (p : Place) (s v : State) → SameHead s v → (acts : List Act) → RaisesAlike SameHead (raised_to p s acts) (raised_to p v acts)
unfolding raised_to
raised_alike p s v e [] = alike_none
raised_alike p s v e (a ∷ acts) = alike_next e refl refl (raised_alike p s v e acts)

module _ (c : Circuit) (W : Wired c) where
  abbrev T : Except
  T = until_timed c

  pub record StateNear (s v : State) : Type 0 where
    pub wires : Near c W s.wires v.wires
    pub delays : v.delays ≡ s.delays
    pub outbox : v.outbox ≡ s.outbox
    pub changed : v.changed ≡ s.changed

  pub itself_near : (s : State) → StateNear s s
  itself_near s =
      record {
        wires = record { aside = record { apart = not_apart s.wires; to_check = refl; queued = refl; late = refl }; shown = λ o k. refl };
        delays = refl;
        outbox = refl;
        changed = refl;
      }

  record OpenedNear (z y : Opened) : Type 0 where
    state : StateNear z.state y.state
    raises : RaisesAlike SameHead z.raises y.raises

  record OpenedTwins (z y : Opened) : Type 0 where
    first : OpenedSound c W [] T z
    second : OpenedSound c W [] T y
    near : OpenedNear z y

  twin : {s v : State} → Sound c T [] s → Sound c T [] v → StateNear s v → Twin c W s.wires v.wires
  twin a b n = record { first = a.wires; second = b.wires; near = n.wires }

  delay_same : {s v : State} → StateNear s v → (g : ℕ) → delay c v g ≡ delay c s g
  unfolding delay
  delay_same n g = ap (λ (ds : List Delay). get_or ds g idle) n.delays

  -- ---- what moves on

  advanced_near :
      (z y : Opened) (s v : State) (place : Place) (g p n : ℕ) (m m' : Moved) → m' ≡ m → RaisesAlike SameHead z.raises y.raises → Sound c T [] s → Sound c T [] v →
      StateNear s v → MovedFine n m → ((i : ℕ) → i < n → Other c (output c g p + i)) → OpenedNear (advanced c z s place g p m) (advanced c y v place g p m')
  unfolding advanced wires≔ delay≔ delays≔ count_changed changed≔
  advanced_near z y s v place g p n m m' e r a b h f k =
      let t = set_outs_twin c W m.row (output c g p) (λ i l. k i (omega (arith, f.few))) f.each (twin a b h) in
      let x : tally v.changed m.changed ≡ tally s.changed m.changed = ap (λ (n : ℕ). tally n m.changed) h.changed in
      subst (λ x. OpenedNear (advanced c z s place g p m) (advanced c y v place g p x)) (sym e)
      (record {
        state = record { wires = t.near; delays = ap (λ (ds : List Delay). set ds g m.state) h.delays; outbox = h.outbox; changed = x };
        raises = alike_append r (raised_alike place _ _ (record { tick = t.near.aside.apart.tick; changed = x }) (fire m.fires g));
      })

  advance_buffer_near : (dt : ℕ) (z y : Opened) (g : ℕ) → OpenedTwins z y → OpenedNear (advance_buffer c dt z g) (advance_buffer c dt y g)
  unfolding advance_buffer kinds_opened
  advance_buffer_near dt z y g t =
      let k = kind_of_gate c g in
      let a = t.first.state in
      let b = t.second.state in
      let h = t.near.state in
      let d = delay_of c z.state a g in
      let e = delay_same h g in
      if_alike OpenedNear (eqb k 10 || eqb k 12) (eqb k 10 || eqb k 12) refl
      (λ q. advanced_near z y _ _ to_late g 0 1 _ _ (ap (λ x. advance_flight (λ v. countdown c g (truthy v)) dt x) e) t.near.raises a b h
      (advance_flight_held _ dt _ d) (buffer_other c W [] g q))
      λ _. if_alike OpenedNear (eqb k 11 || eqb k 13) (eqb k 11 || eqb k 13) refl
      (λ _. advanced_near z y _ _ to_late g 0 0 _ _ (ap (advance_fires dt) e) t.near.raises a b h (advance_fires_held dt _ d) (λ i l. absurd (omega arith)))
      λ _. if_alike OpenedNear (eqb k 16 || eqb k 17) (eqb k 16 || eqb k 17) refl
      (λ q. advanced_near z y _ _ to_late g 1 8 _ _ (ap (advance_records dt) e) t.near.raises a b h (advance_records_held dt _ d) (queue_others c W [] g q))
      λ _. t.near

  -- n inputs of gate g from p on, read in both
  record Readings (s v : State) (g p n : ℕ) : Type 0 where
    near : StateNear (readied c s g p n) (readied c v g p n)
    dt : (readied c v g p n).wires.dt ≡ (readied c s g p n).wires.dt
    reads : (k : ℕ) → k < n → read c (readied c v g p n) g (p + k) ≡ read c (readied c s g p n) g (p + k)

  readings : {s v : State} (g p n : ℕ) → Twin c W s.wires v.wires → StateNear s v → Readings s v g p n
  unfolding readied read wires≔ input
  readings {s} {v} g p n t h =
      let r = readied_twins c W (from (input c g p) n) t in
      record {
        near = record { wires = r.twin.near; delays = h.delays; outbox = h.outbox; changed = h.changed };
        dt = r.twin.near.aside.apart.dt;
        reads = λ k l. r.looks (input c g (p + k)) (place k l);
      }
    where
      place : (k : ℕ) → k < n → among (input c g (p + k)) (from (input c g p) n) ≡ true
      place k l =
          let e : get_or c.first_input g 0 + (p + k) ≡ get_or c.first_input g 0 + p + k = omega arith in
          rw e (among_from (get_or c.first_input g 0 + p) n k l)

  advance_clock_near : (z y : Opened) (g : ℕ) → OpenedTwins z y → OpenedNear (advance_clock c z g) (advance_clock c y g)
  unfolding advance_clock
  advance_clock_near z y g t =
      let a = readied_sound c W g 0 2 t.first.state in
      let b = readied_sound c W g 0 2 t.second.state in
      let r = readings g 0 2 (twin t.first.state t.second.state t.near.state) t.near.state in
      let d = delay_of c _ a g in
      let e = delay_same r.near g in
      let first = r.reads 0 (omega arith) in
      let second = r.reads 1 (omega arith) in
      advanced_near z y _ _ to_pending g 0 0 _ _
      (λ j. advance_elapsed (r.dt j) (as_float (as_float one_point_zero (setting c g 2)) (second j)) (enabled (first j)) (e j)) t.near.raises a b r.near
      (advance_elapsed_held zero_real _ _ _ _ (plus_real _ _ d.elapsed a.wires.length_finite) d) (λ i l. absurd (omega arith))

  advance_timer_near : (z y : Opened) (g : ℕ) → eqb (kind_of_gate c g) 15 ≡ true → OpenedTwins z y → OpenedNear (advance_timer c z g) (advance_timer c y g)
  unfolding advance_timer kinds_opened
  advance_timer_near z y g q t =
      let a = readied_sound c W g 3 1 t.first.state in
      let b = readied_sound c W g 3 1 t.second.state in
      let r = readings g 3 1 (twin t.first.state t.second.state t.near.state) t.near.state in
      let d = delay_of c _ a g in
      let e = delay_same r.near g in
      let limit = r.reads 0 (omega arith) in
      advanced_near z y _ _ to_late g 0 1 _ _ (λ j. advance_time (r.dt j) (as_float 0 (limit j)) (e j)) t.near.raises a b r.near
      (advance_time_held _ _ _ (λ _. as_float_real _ (read_is_real c W _ g 3 a)) (plus_real _ _ d.elapsed a.wires.length_finite) (λ _ r. r) d)
      (other_outputs c W.laid g 15 0 1 (eqb-true _ 15 q) refl (omega arith))

  -- ---- settling begins with all gates fresh

  settle_same : (s v : State) → refresh_all c v.wires ≡ refresh_all c s.wires → v.delays ≡ s.delays → v.outbox ≡ s.outbox → v.changed ≡ s.changed → settle c v ≡ settle c s
  unfolding settle wires≔
  settle_same s v e d o n = λ j. check_on c (most_checks c) (calm (record { wires = e j; delays = d j; outbox = o j; changed = n j }))

  -- ---- all of it

  begin_near :
      (s v : State) (dt : ℕ) → finite dt ≡ true → Sound c no_exception [] s → Sound c no_exception [] v → StateNear s v → StateNear (begin_tick s dt) (begin_tick v dt)
  unfolding begin_tick wires≔ outbox≔ changed≔
  begin_near s v dt q a b h = record { wires = (next_tick_twin c W dt q a.wires b.wires h.wires).near; delays = h.delays; outbox = refl; changed = refl }

  pub record OpenedAlike (z y : Opened) : Type 0 where
    pub state : z.state ≡ y.state
    pub raises : RaisesAlike SameHead z.raises y.raises

  module _ (given : Given) where
    -- what came: events and stimuli
    came : State → List (Raise State Act Place)
    came s = raised_to to_delivered (begin_tick s given.dt) (joined (map (delivered c) s.outbox)) ++ raised_to to_late (begin_tick s given.dt) given.stimuli

    -- the opening up to ended pulses
    before_moving : State → Opened
    before_moving s =
        record {
          state = wires≔ (begin_tick s given.dt) (each (lower c) (begin_tick s given.dt).wires (from 0 (length c.outputs)));
          raises = came s;
        }

    -- up to Stopwatches
    after_moving : State → Opened
    after_moving s =
        each (advance_timer c) (each (advance_clock c) (each (advance_buffer c (narrow given.dt)) (before_moving s) c.buffers) c.clocks) c.stopwatches

    came_brings : (s : State) → GivenFine c given → Sound c no_exception [] s → All (λ (r : Raise State Act Place). Brings c r.act) (came s)
    unfolding came
    came_brings s q z =
        all_append (raised_brings c W [] to_delivered _ _ (all_delivered c W [] s.outbox z.outbox)) (raised_brings c W [] to_late _ given.stimuli q.stimuli)

    came_alike : (s v : State) → StateNear s v → SameHead (begin_tick s given.dt) (begin_tick v given.dt) → RaisesAlike SameHead (came s) (came v)
    unfolding came
    came_alike s v h e =
        alike_append
        (subst (λ (ms : List Send). RaisesAlike SameHead (raised_to to_delivered (begin_tick s given.dt) (joined (map (delivered c) s.outbox))) (raised_to to_delivered (begin_tick v given.dt) (joined (map (delivered c) ms))))
        (sym h.outbox) (raised_alike to_delivered _ _ e (joined (map (delivered c) s.outbox))))
        (raised_alike to_late _ _ e given.stimuli)

    before_moving_twins :
        (s v : State) → GivenFine c given → Sound c no_exception [] s → Sound c no_exception [] v → StateNear s v → OpenedTwins (before_moving s) (before_moving v)
    unfolding before_moving wires≔
    before_moving_twins s v q a b h =
        let a₁ = begin_tick_sound c W [] s given.dt q.length a in
        let b₁ = begin_tick_sound c W [] v given.dt q.length b in
        let h₁ = begin_near s v given.dt q.length a b h in
        let l =
        each_alike (Twin c W) (λ (_ : ℕ). true) (lower c) (λ _ _ o _ t. lower_twin c W o t) (begin_tick s given.dt).wires (begin_tick v given.dt).wires
        (from 0 (length c.outputs)) (all_pass (from 0 (length c.outputs))) (twin a₁ b₁ h₁) in
        record {
          first = record { state = wires_sound c a₁ l.first; raises = came_brings s q a };
          second = record { state = wires_sound c b₁ l.second; raises = came_brings v q b };
          near =
              record {
                state = record { wires = l.near; delays = h₁.delays; outbox = h₁.outbox; changed = h₁.changed };
                raises = came_alike s v h (record { tick = h₁.wires.aside.apart.tick; changed = h₁.changed });
              };
        }

    after_moving_twins :
        (s v : State) → GivenFine c given → Sound c no_exception [] s → Sound c no_exception [] v → StateNear s v → OpenedTwins (after_moving s) (after_moving v)
    unfolding after_moving
    after_moving_twins s v q a b h =
        let n =
        each_alike OpenedTwins (λ (_ : ℕ). true) (advance_buffer c (narrow given.dt))
        (λ z y g _ t. record {
          first = advance_buffer_sound c W [] _ z g t.first;
          second = advance_buffer_sound c W [] _ y g t.second;
          near = advance_buffer_near _ z y g t;
        }) (before_moving s) (before_moving v) c.buffers (all_pass c.buffers) (before_moving_twins s v q a b h) in
        let k =
        each_alike OpenedTwins (λ (_ : ℕ). true) (advance_clock c)
        (λ z y g _ t. record { first = advance_clock_sound c W [] z g t.first; second = advance_clock_sound c W [] y g t.second; near = advance_clock_near z y g t })
        _ _ c.clocks (all_pass c.clocks) n in
        each_alike OpenedTwins (λ g. eqb (kind_of_gate c g) 15) (advance_timer c)
        (λ z y g e t. record { first = advance_timer_sound c W [] z g e t.first; second = advance_timer_sound c W [] y g e t.second; near = advance_timer_near z y g e t })
        _ _ c.stopwatches W.stopwatches k

    pub open_tick_alike :
        (s v : State) → GivenFine c given → Sound c no_exception [] s → Sound c no_exception [] v → StateNear s v → OpenedAlike (open_tick c s given) (open_tick c v given)
    unfolding open_tick came before_moving after_moving wires≔
    open_tick_alike s v q a b h =
        let t = after_moving_twins s v q a b h in
        let n = t.near.state in
        let e : settle c (before_settling c v given).state ≡ settle c (before_settling c s given).state =
        settle_same (before_settling c s given).state (before_settling c v given).state (invalidated_same c W (twin t.first.state t.second.state n)) n.delays n.outbox n.changed in
        record {
          state = ap (λ (x : Settled). x.state) (sym e);
          raises =
              alike_append t.near.raises
              (subst (λ (x : Settled). RaisesAlike SameHead (pending (settle c (before_settling c s given).state).raises) (pending x.raises)) (sym e) (alike_itself (λ _. record { tick = refl; changed = refl }) (pending (settle c (before_settling c s given).state).raises)));
        }
