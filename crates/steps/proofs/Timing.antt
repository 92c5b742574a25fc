-- Steps that change small states or the outbox: one law for each way out of a function.
use Prim.Native.Nat.{ℕ, ◌+◌, ◌<◌}
use mathlib.Core.Path.{◌≡◌, refl, sym, ap, ◌∙◌}
use mathlib.Core.Bool.{Bool, true, false, cond, ◌||◌}
use mathlib.Core.List.{List, map}
use native.Mathlib.Omega.{arith}
use borrow.Author.Tests.{eq-eqb, ne_eqb}
use lib.Dec.{eqb, leb, ltb}
use lib.ListN.{length, set}
use Rattle.lists.specs.Lists.{Filed, NoRoom, Done}
use Rattle.model.specs.declared.Value.{Value}
use Rattle.model.specs.declared.Value.TheVariants.{Float}
use Rattle.model.specs.Base.{if◌then◌otherwise◌, each, from, among, snoc}
use Rattle.model.specs.Circuit.{Circuit, most_gates, kind_of_gate, input, output}
use Rattle.model.specs.State.{Wires, Delay, Send, State, idle, fires≔, wires≔, delays≔, outbox≔, changed≔}
use Rattle.model.specs.Delays.{pressed, queue_record}
use Rattle.model.specs.Wires.{look, ready, set_out}
use Rattle.model.specs.Exec.{fires_next, ends, most_fires, tally, count_changed, delay, delay≔, set_output, readied, read, read_row, countdown, exec-Buffer, exec-Stopwatch, exec-Queue, exec-SendEvent}
use Rattle.delays.specs.States.{add_fire}
use Rattle.wires.specs.View.{Values, with_wires}
use Rattle.states.specs.View.{Delays, delay_in, with_delay, counting, starting, queue_countdown}
use Rattle.states.specs.Lent.{AddsFire}
use Rattle.units.specs.View.{Units}
use Rattle.units.specs.Calls.{with_outbox, sent}
use Rattle.areas.specs.Areas.{together}
use Rattle.steps.specs.Steps.{Makes}
use Rattle.steps.proofs.Making.{Fires, Ends, Stops, if_true, if_false, makes_as, makes_delays, makes_full, makes_sent, set_again}

-- ---- a buffer in exec mode

-- there was room, or there was none
room_done : (t : Bool) → cond t Done NoRoom ≡ Done → t ≡ true
room_done true e = refl
room_done false e = cc

room_full : (t : Bool) → cond t Done NoRoom ≡ NoRoom → t ≡ false
room_full true e = cc
room_full false e = refl

module _ (c : Circuit) (g : ℕ) (d d₁ : Delays) (r : Filed) (e : AddsFire d d₁ g r (countdown c g true)) where
  pub one_fire_more : r ≡ Done → (v : Values) (u : Units) → Makes (together v u d) (together v u d₁) Ends (exec-Buffer c (together v u d).state g)
  unfolding exec-Buffer count_changed changed≔ delay delay≔ delays≔ add_fire
  one_fire_more h v u =
      let t : Bool = ltb (length (delay_in d g).fires) most_fires in
      let ht : t ≡ true = room_done t (sym e.0 ∙ h) in
      let k = countdown c g true in
      let x : Delay = fires≔ (delay_in d g) (snoc (delay_in d g).fires k.left) in
      makes_as _ _ _ _ _ (if_true t _ _ ht)
      (makes_delays v v d d₁ v.wires (set d.delays g x) (tally d.changed k.changed) refl
      (e.1 ∙ ap (λ (y : Delay). counting (with_delay d g y) k.changed) (if_true t x (delay_in d g) ht)) u)

  pub no_fire_more : r ≡ NoRoom → (v : Values) (u : Units) → Makes (together v u d) (together v u d₁) Stops (exec-Buffer c (together v u d).state g)
  unfolding exec-Buffer count_changed changed≔ delay delay≔ delays≔ add_fire
  no_fire_more h v u =
      let t : Bool = ltb (length (delay_in d g).fires) most_fires in
      let ht : t ≡ false = room_full t (sym e.0 ∙ h) in
      let k = countdown c g true in
      let x : Delay = fires≔ (delay_in d g) (snoc (delay_in d g).fires k.left) in
      let p : with_delay d g (delay_in d g) ≡ d = λ j. record { delays = set_again d.delays g idle j; changed = d.changed; parts = d.parts; rest = d.rest } in
      makes_as _ _ _ _ _ (if_false t _ _ ht)
      (makes_full v u d d₁ (tally d.changed k.changed)
      (e.1 ∙ ap (λ (y : Delays). counting y k.changed) (ap (λ (y : Delay). with_delay d g y) (if_false t x (delay_in d g) ht) ∙ p)))

-- ---- a Stopwatch

module _ (c : Circuit) (g p : ℕ) (v : Values) (d d₁ : Delays) (e : d₁ ≡ with_delay d g (pressed p (delay_in d g))) where
  pub presses : (p ≡ 0 → ⊥) → (u : Units) → Makes (together v u d) (together v u d₁) Ends (exec-Stopwatch c (together v u d).state g p)
  unfolding exec-Stopwatch delay delay≔ delays≔
  presses h u =
      makes_as _ _ _ _ _ (ap ends (if_false (eqb p 0) _ _ (ne_eqb p 0 h)))
      (makes_delays v v d d₁ v.wires (set d.delays g (pressed p (delay_in d g))) d.changed refl e u)

  pub restarts :
      (o : ℕ) (v₁ : Values) → p ≡ 0 → (o ≡ output c g 0) × (o < 131072) → v₁ ≡ with_wires v (set_out c v.wires o (Float 0)) →
      (u : Units) → Makes (together v u d) (together v₁ u d₁) Ends (exec-Stopwatch c (together v u d).state g p)
  unfolding exec-Stopwatch delay delay≔ delays≔ set_output wires≔
  restarts o v₁ h eo f u =
      makes_as _ _ _ _ _ (ap ends (if_true (eqb p 0) _ _ (eq-eqb p 0 h)))
      (makes_delays v v₁ d d₁ (set_out c v.wires (output c g 0) (Float 0)) (set d.delays g (pressed p (delay_in d g))) d.changed (rw (← eo.0) f) e u)

-- ---- a Queue

module _ (c : Circuit) (g : ℕ) where
  last_input : input c g 9 ≡ input c g 1 + 8
  unfolding input
  last_input = omega arith

  pub queues :
      (v v₁ : Values) (d d₁ : Delays) (i : ℕ) (vs : List Value) (x : Value) → (i ≡ input c g 1) × (i < 131072) → v₁ ≡ with_wires v (each (ready c) v.wires (from i 9)) →
      vs ≡ map (look c v₁.wires) (from i 8) → x ≡ look c v₁.wires (i + 8) →
      d₁ ≡ starting d g (λ y left. queue_record y vs left) (queue_countdown (eqb (kind_of_gate c g) 17) x) →
      (u : Units) → Makes (together v u d) (together v₁ u d₁) Ends (exec-Queue c (together v u d).state g (queue_countdown (eqb (kind_of_gate c g) 17)))
  unfolding exec-Queue count_changed changed≔ delay delay≔ delays≔ readied read read_row wires≔
  queues v v₁ d d₁ i vs x ei e₁ er ex e u =
      let w : Wires = each (ready c) v.wires (from (input c g 1) 9) in
      let p : v₁ ≡ with_wires v w = rw (← ei.0) e₁ in
      let q : vs ≡ map (look c w) (from (input c g 1) 8) = rw (← ei.0) (er ∙ ap (λ (y : Values). map (look c y.wires) (from i 8)) e₁) in
      let z : x ≡ look c w (input c g 9) = rw (last_input, ← ei.0) (ex ∙ ap (λ (y : Values). look c y.wires (i + 8)) e₁) in
      let k = queue_countdown (eqb (kind_of_gate c g) 17) (look c w (input c g 9)) in
      makes_delays v v₁ d d₁ w
      (set d.delays g (queue_record (delay_in d g) (map (look c w) (from (input c g 1) 8)) k.left))
      (tally d.changed k.changed)
      p
      (e ∙ (λ j. starting d g (λ y left. queue_record y (q j) left) (queue_countdown (eqb (kind_of_gate c g) 17) (z j))))
      u

-- ---- events

-- the outbox changes if a test is not passed
if_outbox : (b : Bool) (s : State) (x : List Send) → (if b then s otherwise outbox≔ s x) ≡ record { wires = s.wires; delays = s.delays; outbox = if b then s.outbox otherwise x; changed = s.changed }
unfolding if◌then◌otherwise◌ outbox≔
if_outbox true s x = refl
if_outbox false s x = refl

module _ (c : Circuit) (g : ℕ) (v v₁ : Values) (u : Units) (i o : ℕ) (t : Bool) (ei : (i ≡ input c g 2) × (i < 131072)) (e₁ : v₁ ≡ with_wires v (each (ready c) v.wires (from i 8)))
    (et : t ≡ among g (map (λ m. m.gate) u.outbox)) where
  -- a second event is ignored
  pub ignores : t ≡ true → (o ≡ output c g 0) × (o < 131072) → (d : Delays) → Makes (together v u d) (together v₁ u d) (Fires o) (exec-SendEvent c (together v u d).state g)
  unfolding exec-SendEvent readied wires≔
  ignores h eo d =
      let w : Wires = each (ready c) v.wires (from (input c g 2) 8) in
      let k : (among g (map (λ m. m.gate) u.outbox) || leb most_gates (length u.outbox)) ≡ true = ap (λ (b : Bool). b || leb most_gates (length u.outbox)) (sym et ∙ h) in
      makes_as _ _ _ _ _ (ap (λ (s : State). fires_next s (output c g 0)) (if_true (among g (map (λ m. m.gate) u.outbox) || leb most_gates (length u.outbox)) _ _ k))
      (makes_sent v v₁ u u w u.outbox o (output c g 0) (rw (← ei.0) e₁) refl eo.0 d)

  -- a first one is sent
  pub sends :
      (vs : List Value) (u₁ : Units) → vs ≡ map (look c v₁.wires) (from i 8) → u₁ ≡ with_outbox u (sent (record { gate = g; row = vs }) u.outbox) →
      (o ≡ output c g 0) × (o < 131072) → (d : Delays) → Makes (together v u d) (together v₁ u₁ d) (Fires o) (exec-SendEvent c (together v u d).state g)
  unfolding exec-SendEvent readied read_row wires≔ sent
  sends vs u₁ er e eo d =
      let w : Wires = each (ready c) v.wires (from (input c g 2) 8) in
      let q : vs ≡ map (look c w) (from (input c g 2) 8) = rw (← ei.0) (er ∙ ap (λ (y : Values). map (look c y.wires) (from i 8)) e₁) in
      let b : Bool = among g (map (λ m. m.gate) u.outbox) || leb most_gates (length u.outbox) in
      let x : List Send = snoc u.outbox (record { gate = g; row = map (look c w) (from (input c g 2) 8) }) in
      makes_as _ _ _ _ _ (ap (λ (s : State). fires_next s (output c g 0)) (if_outbox b (record { wires = w; delays = d.delays; outbox = u.outbox; changed = d.changed }) x))
      (makes_sent v v₁ u u₁ w (if b then u.outbox otherwise x) o (output c g 0) (rw (← ei.0) e₁)
      (e ∙ (λ j. with_outbox u (if b then u.outbox otherwise snoc u.outbox (record { gate = g; row = q j })))) eo.0 d)
