-- What each check keeps, settling keeps; what each change of the wires and the small states keeps, the opening of a tick keeps.
-- Each is first a law of facts that go by a number, of which each check and each gate that moves on uses up one (`spends`).
use mathlib.Core.Path.{◌≡◌, refl}
use mathlib.Core.Bool.{Bool, true}
use mathlib.Core.List.{List, [], ◌∷◌, ◌++◌}
use Prim.Native.Nat.{ℕ, zero, suc, ◌+◌}
use lib.ListN.{length}
use Rattle.schedule.specs.Schedule.{Raise, Place, When, to_late, to_delivered}
use Rattle.schedule.specs.Promise.{All}
use Rattle.schedule.proofs.Members.{all_map, all_append}
use Rattle.model.specs.declared.Value.{Value}
use Rattle.model.specs.Base.{all, from}
use Rattle.model.specs.Circuit.{Circuit, input, output}
use Rattle.model.specs.Script.{Given}
use Rattle.model.specs.State.{Wires, Delay, Act, State, wires≔}
use Rattle.model.specs.Wires.{ready, set_outs, invalidate}
use Rattle.model.specs.Delays.{Moved}
use Rattle.model.specs.Exec.{count_changed, delay≔, readied}
use Rattle.model.specs.Settle.{Settled, taken, when_checked, check, check_on, settle}
use Rattle.model.specs.Opening.{Opened, raised_to, fire, begin_tick, lower, advanced, advance_buffer, advance_clock, advance_timer, before_settling, open_tick}
use Rattle.model.proofs.Lists.{if_both, each_keeps, each_spends, each_keeps_all, map_all, all_of}

module _ (c : Circuit) where
  -- ---- settling

  -- the first that waits is taken and checked
  abbrev pub checked : Settled → ℕ → List ℕ → Settled
  checked z i is =
      let r = check c (when_checked z.state.wires i) (wires≔ z.state (taken z.state.wires i is)) i in
      record { state = r.state; raises = z.raises ++ r.raises }

  -- by the rounds that are left
  module _ (P : ℕ → Settled → Type 0)
      (turn : (n : ℕ) (z : Settled) (i : ℕ) (is : List ℕ) → z.state.wires.to_check ≡ i ∷ is → P (suc n) z → P n (checked z i is)) where
    pub check_on_spends : (n : ℕ) (z : Settled) → P n z → (m : ℕ) × P m (check_on c n z)
    unfolding check_on
    check_on_spends zero z p = (zero, p)
    check_on_spends (suc n) z p = go z.state.wires.to_check refl (λ r x. check_on_spends n r x)
      where
        go :
            (q : List ℕ) → z.state.wires.to_check ≡ q → ((r : Settled) → P n r → (m : ℕ) × P m (check_on c n r)) →
            (m : ℕ) × P m (elim q as (λ _. Settled) [ [] ↦ z | (i ∷ is) ↦ check_on c n (checked z i is) ])
        go [] e rec = (suc n, p)
        go (i ∷ is) e rec = rec (checked z i is) (turn n z i is e p)

  pub check_on_keeps :
      (P : Settled → Type 0) → ((z : Settled) (i : ℕ) (is : List ℕ) → z.state.wires.to_check ≡ i ∷ is → P z → P (checked z i is)) →
      (n : ℕ) (z : Settled) → P z → P (check_on c n z)
  check_on_keeps P turn n z p = (check_on_spends (λ _. P) (λ _. turn) n z p).1

  -- ---- the opening of a tick

  -- P holds of the state, and of each in which something was raised
  pub record OpenedKeeps (P : State → Type 0) (z : Opened) : Type 0 where
    pub state : P z.state
    pub raises : All (λ (r : Raise State Act Place). P r.at) z.raises

  -- What has to hold of a fact P about states, by the gates that may still move on, and a fact Q about their wires, where the time sources pass a test.
  pub record OpeningSpends (P : ℕ → State → Type 0) (Q : Wires → Type 0) (timed : ℕ → Bool) : Type 0 where
    pub fewer : {n : ℕ} {s : State} → P (suc n) s → P n s
    pub of : {n : ℕ} {s : State} → P n s → Q s.wires
    pub put : {n : ℕ} {s : State} {w : Wires} → P n s → Q w → P n (wires≔ s w)
    pub delay : {n : ℕ} {s : State} (g : ℕ) (d : Delay) → P n s → P n (delay≔ c s g d)
    pub count : {n : ℕ} {s : State} (changed : Bool) → P (suc n) s → P n (count_changed s changed)
    pub ready : (w : Wires) (i : ℕ) → Q w → Q (ready c w i)
    pub set_outs : (w : Wires) (o : ℕ) (vs : List Value) → Q w → Q (set_outs c w o vs)
    pub lower : (w : Wires) (o : ℕ) → Q w → Q (lower c w o)
    pub invalidate : (w : Wires) (g : ℕ) → timed g ≡ true → Q w → Q (invalidate c w g)

  -- as many as the gates that move on in the opening of a tick, and n more
  abbrev pub moving : ℕ → ℕ
  moving n = length c.buffers + (length c.clocks + (length c.stopwatches + n))

  module _ {P : ℕ → State → Type 0} {Q : Wires → Type 0} {timed : ℕ → Bool} (k : OpeningSpends P Q timed) (times : all timed c.time_sources ≡ true) where
    raised_keeps : (n : ℕ) (p : Place) (s : State) (acts : List Act) → P n s → All (λ (r : Raise State Act Place). P n r.at) (raised_to p s acts)
    unfolding raised_to
    raised_keeps n p s acts z = map_all (λ (r : Raise State Act Place). P n r.at) _ (all_of (λ a. z) acts)

    readied_keeps : {n : ℕ} {s : State} (g p m : ℕ) → P n s → P n (readied c s g p m)
    unfolding readied
    readied_keeps {n} {s} g p m z = k.put z (each_keeps Q (ready c) k.ready s.wires (from (input c g p) m) (k.of z))

    fewer_opened : (n : ℕ) (z : Opened) → OpenedKeeps (P (suc n)) z → OpenedKeeps (P n) z
    fewer_opened n z y = record { state = k.fewer y.state; raises = all_map (λ r q. k.fewer q) y.raises }

    advanced_spends :
        (n : ℕ) (z : Opened) (s : State) (place : Place) (g p : ℕ) (m : Moved) → OpenedKeeps (P (suc n)) z → P (suc n) s →
        OpenedKeeps (P n) (advanced c z s place g p m)
    unfolding advanced
    advanced_spends n z s place g p m y x =
        let t = k.count m.changed (k.put (k.delay g m.state x) (k.set_outs s.wires (output c g p) m.row (k.of x))) in
        record { state = t; raises = all_append (fewer_opened n z y).raises (raised_keeps n place _ (fire m.fires g) t) }

    advance_buffer_spends : (dt n : ℕ) (z : Opened) (g : ℕ) → OpenedKeeps (P (suc n)) z → OpenedKeeps (P n) (advance_buffer c dt z g)
    unfolding advance_buffer
    advance_buffer_spends dt n z g y =
        if_both (OpenedKeeps (P n)) _ (advanced_spends n z _ _ g _ _ y y.state)
        (if_both (OpenedKeeps (P n)) _ (advanced_spends n z _ _ g _ _ y y.state)
        (if_both (OpenedKeeps (P n)) _ (advanced_spends n z _ _ g _ _ y y.state) (fewer_opened n z y)))

    advance_clock_spends : (n : ℕ) (z : Opened) (g : ℕ) → OpenedKeeps (P (suc n)) z → OpenedKeeps (P n) (advance_clock c z g)
    unfolding advance_clock
    advance_clock_spends n z g y = advanced_spends n z _ _ g _ _ y (readied_keeps g 0 2 y.state)

    advance_timer_spends : (n : ℕ) (z : Opened) (g : ℕ) → OpenedKeeps (P (suc n)) z → OpenedKeeps (P n) (advance_timer c z g)
    unfolding advance_timer
    advance_timer_spends n z g y = advanced_spends n z _ _ g _ _ y (readied_keeps g 3 1 y.state)

    -- from the moment on at which the next tick has begun
    pub before_settling_spends : (n : ℕ) (s : State) (given : Given) → P (moving n) (begin_tick s given.dt) → OpenedKeeps (P n) (before_settling c s given)
    before_settling_spends n s given z =
        let came = all_append (raised_keeps _ to_delivered _ _ z) (raised_keeps _ to_late _ given.stimuli z) in
        let z₂ = k.put z (each_keeps Q (lower c) k.lower _ (from 0 (length c.outputs)) (k.of z)) in
        let b = each_spends (λ n. OpenedKeeps (P n)) (advance_buffer c _) (advance_buffer_spends _) _ c.buffers _ (record { state = z₂; raises = came }) in
        let y = each_spends (λ n. OpenedKeeps (P n)) (advance_clock c) advance_clock_spends _ c.clocks _ b in
        let t = each_spends (λ n. OpenedKeeps (P n)) (advance_timer c) advance_timer_spends n c.stopwatches _ y in
        let w = each_keeps_all Q timed (invalidate c) k.invalidate _ c.time_sources times (k.of t.state) in
        record { state = k.put t.state w; raises = t.raises }

    -- then settling, up to which P goes by n, and after which R holds
    pub open_tick_spends :
        (R : State → Type 0) (n : ℕ) → ((s : State) → P n s → R s) →
        ((s : State) → P n s → R (settle c s).state × All (λ (r : Raise State Act When). R r.at) (settle c s).raises) →
        (s : State) (given : Given) → P (moving n) (begin_tick s given.dt) → OpenedKeeps R (open_tick c s given)
    unfolding open_tick
    open_tick_spends R n before settles s given z =
        let t = before_settling_spends n s given z in
        let x = settles _ t.state in
        record { state = x.0; raises = all_append (all_map (λ r. before r.at) t.raises) (map_all (λ (r : Raise State Act Place). R r.at) _ x.1) }

  -- what has to be kept, where it goes by no number
  pub record OpeningKeeps (P : State → Type 0) (Q : Wires → Type 0) (timed : ℕ → Bool) : Type 0 where
    pub of : {s : State} → P s → Q s.wires
    pub put : {s : State} {w : Wires} → P s → Q w → P (wires≔ s w)
    pub delay : {s : State} (g : ℕ) (d : Delay) → P s → P (delay≔ c s g d)
    pub count : {s : State} (changed : Bool) → P s → P (count_changed s changed)
    pub ready : (w : Wires) (i : ℕ) → Q w → Q (ready c w i)
    pub set_outs : (w : Wires) (o : ℕ) (vs : List Value) → Q w → Q (set_outs c w o vs)
    pub lower : (w : Wires) (o : ℕ) → Q w → Q (lower c w o)
    pub invalidate : (w : Wires) (g : ℕ) → timed g ≡ true → Q w → Q (invalidate c w g)

  module _ {P : State → Type 0} {Q : Wires → Type 0} {timed : ℕ → Bool} (k : OpeningKeeps P Q timed) (times : all timed c.time_sources ≡ true) where
    spends_none : OpeningSpends (λ _. P) Q timed
    spends_none =
        record {
          fewer = λ z. z;
          of = λ z. k.of z;
          put = λ z y. k.put z y;
          delay = λ g d z. k.delay g d z;
          count = λ b z. k.count b z;
          ready = k.ready;
          set_outs = k.set_outs;
          lower = k.lower;
          invalidate = k.invalidate;
        }

    pub before_settling_keeps : (s : State) (given : Given) → P (begin_tick s given.dt) → OpenedKeeps P (before_settling c s given)
    before_settling_keeps = before_settling_spends spends_none times 0

    pub open_tick_keeps :
        ((s : State) → P s → P (settle c s).state × All (λ (r : Raise State Act When). P r.at) (settle c s).raises) →
        (s : State) (given : Given) → P (begin_tick s given.dt) → OpenedKeeps P (open_tick c s given)
    open_tick_keeps = open_tick_spends spends_none times P 0 (λ s z. z)
