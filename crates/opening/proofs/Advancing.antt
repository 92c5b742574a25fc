-- Gates that move on by a tick.
use Prim.Native.Nat.{ℕ, suc, ◌+◌, ◌≤◌, ◌<◌}
use mathlib.Core.Path.{◌≡◌, refl, sym, ap, subst, ◌∙◌}
use mathlib.Core.Bool.{Bool, true, false}
use mathlib.Core.List.{List, [], ◌∷◌}
use mathlib.Core.Logic.{inl, inr}
use native.Mathlib.Omega.{arith}
use borrow.Author.Tests.{eqb-true, eqb-false, ne_eqb}
use types.Run.{OneOf}
use lib.Dec.{eqb}
use lib.ListN.{length}
use Rattle.schedule.specs.Schedule.{Place, to_late, to_pending}
use Rattle.lists.specs.Lists.{Filed as Answer, Done}
use Rattle.model.specs.declared.Value.{Value}
use Rattle.model.specs.declared.Value.TheVariants.{Float}
use Rattle.model.specs.Base.{if◌then◌otherwise◌, both, each, from}
use Rattle.model.specs.Value.{value_of, truthy, as_float, bit, one_point_zero}
use Rattle.model.specs.Circuit.{Circuit, kind_of_gate, input, output, setting}
use Rattle.model.specs.Questions.{within}
use Rattle.model.specs.State.{Wires, State, wires≔, delays≔, changed≔}
use Rattle.model.specs.Wires.{look, ready, set_out, set_outs}
use Rattle.model.specs.Delays.{Moved, moved, advance_flight, advance_fires, advance_records, advance_elapsed, advance_time}
use Rattle.model.specs.Exec.{count_changed, delay, delay≔, readied, read, countdown}
use Rattle.model.specs.Opening.{Opened, raised_to, fire, enabled, advanced, advance_buffer, advance_clock, advance_timer}
use Rattle.std.specs.Prelude.{Option, None, Some}
use Rattle.delays.specs.declared.stopwatch.Stopwatch.{Stopwatch}
use Rattle.delays.specs.States.{row_of, stopwatch_moved}
use Rattle.queue.specs.declared.Record.{Record}
use Rattle.queue.specs.Queue.{queued, released}
use Rattle.wires.specs.View.{Values, with_wires}
use Rattle.states.specs.View.{is_queue, Delays, delay_in, with_delay, counting, delays, Lent, Moves}
use Rattle.units.specs.View.{Units}
use Rattle.areas.specs.Areas.{Contents, together}
use Rattle.opening.specs.Opening.{unopened, Opens}
use Rattle.opening.specs.Stages.{Puts, Advances, MovesOn, landing, firing, releasing}
use Rattle.states.proofs.Lending.{lent_kept}
use Rattle.opening.proofs.Stages.{puts_none, opens_none, advances_fire}

-- the area stays lent
pub lent_moved : (c : Circuit) (bs ds : List ℕ) (g n : ℕ) (m : Moved) (row : List Value) → Lent c bs → Moves (delays c bs) (delays c ds) g m row n → length ds ≡ length bs → Lent c ds
lent_moved c bs ds g n m row l k e = lent_kept c bs ds l e (ap (λ (x : Delays). x.parts) k.state)

-- a gate moved on, and its row was written to its outputs from q on
advanced_by :
    (c : Circuit) (v v₁ : Values) (u : Units) (d d₁ : Delays) (p : Place) (g q n : ℕ) (m : Moved) (row : List Value) → Moves d d₁ g m row n →
    v₁ ≡ with_wires v (set_outs c v.wires (output c g q) row) →
    Advances (together v u d) (together v₁ u d₁) (advanced c (unopened (together v u d).state) (together v u d).state p g q m) p g n
unfolding advanced unopened wires≔ delay≔ delays≔ count_changed changed≔
advanced_by c v v₁ u d d₁ p g q n m row k e =
    record {
      areas =
          (λ j. together (e j) u (k.state j))
          ∙ (λ j. together (with_wires v (set_outs c v.wires (output c g q) (sym k.row j))) u (counting (with_delay d g m.state) m.changed));
      raises =
          λ j. raised_to p (advanced c (unopened (together v u d).state) (together v u d).state p g q m).state (fire (k.fires j) g);
    }

-- and handed out nothing
advanced_nothing :
    (c : Circuit) (v : Values) (u : Units) (d d₁ : Delays) (p : Place) (g n : ℕ) (m : Moved) → Moves d d₁ g m [] n →
    Advances (together v u d) (together v u d₁) (advanced c (unopened (together v u d).state) (together v u d).state p g 0 m) p g n
unfolding set_outs
advanced_nothing c v u d d₁ p g n m k = advanced_by c v v u d d₁ p g 0 n m [] k refl

-- no Fire
pub fires_none : (c : Circuit) (p : Place) (u : Units) (g : ℕ) → Puts c u u Done p (fire 0 g)
unfolding fire
fires_none c p u g = puts_none c p u

-- ---- a value buffer

module _ (c : Circuit) (v v₁ : Values) (d d₁ : Delays) (g o dt : ℕ) where
  pub lands : (r : Option Value) (x : Value) → Moves d d₁ g (advance_flight (λ y. countdown c g (truthy y)) dt (delay_in d g)) (row_of r) 0 → r ≡ Some x → o ≡ output c g 0 →
      v₁ ≡ with_wires v (set_out c v.wires o x) → MovesOn v v₁ d d₁ (landing c dt g) to_late g 0
  unfolding landing delay row_of set_outs
  lands r x k er eo e u =
      advanced_by c v v₁ u d d₁ to_late g 0 0 _ (x ∷ []) (subst (λ (y : Option Value). Moves d d₁ g (advance_flight (λ w. countdown c g (truthy w)) dt (delay_in d g)) (row_of y) 0) er k)
      (e ∙ ap (λ (i : ℕ). with_wires v (set_out c v.wires i x)) eo)

pub lands_not : (c : Circuit) (v : Values) (d d₁ : Delays) (g dt : ℕ) (r : Option Value) → Moves d d₁ g (advance_flight (λ y. countdown c g (truthy y)) dt (delay_in d g)) (row_of r) 0 →
    r ≡ None → MovesOn v v d d₁ (landing c dt g) to_late g 0
unfolding landing delay row_of
lands_not c v d d₁ g dt r k er u =
    advanced_nothing c v u d d₁ to_late g 0 _ (subst (λ (y : Option Value). Moves d d₁ g (advance_flight (λ w. countdown c g (truthy w)) dt (delay_in d g)) (row_of y) 0) er k)

-- ---- a Queue

module _ (c : Circuit) (v v₁ : Values) (d d₁ : Delays) (g o dt : ℕ) where
  pub releases : (q : Option Record) (r : Record) → Moves d d₁ g (advance_records dt (delay_in d g)) (released q []).row (released q []).fires → q ≡ Some r → o ≡ output c g 1 →
      v₁ ≡ with_wires v (set_outs c v.wires o (both value_of r.kinds r.contents)) → MovesOn v v₁ d d₁ (releasing c dt g) to_late g (bit true)
  unfolding releasing delay released queued moved bit if◌then◌otherwise◌
  releases q r k er eo e u =
      advanced_by c v v₁ u d d₁ to_late g 1 1 _ (queued r).row (subst (λ (y : Option Record). Moves d d₁ g (advance_records dt (delay_in d g)) (released y []).row (released y []).fires) er k)
      (e ∙ ap (λ (i : ℕ). with_wires v (set_outs c v.wires i (queued r).row)) eo)

pub releases_not : (c : Circuit) (v : Values) (d d₁ : Delays) (g dt : ℕ) (q : Option Record) → Moves d d₁ g (advance_records dt (delay_in d g)) (released q []).row (released q []).fires →
    q ≡ None → MovesOn v v d d₁ (releasing c dt g) to_late g (bit false)
unfolding releasing delay released moved bit if◌then◌otherwise◌ set_outs
releases_not c v d d₁ g dt q k er u =
    advanced_by c v v u d d₁ to_late g 1 0 _ [] (subst (λ (y : Option Record). Moves d d₁ g (advance_records dt (delay_in d g)) (released y []).row (released y []).fires) er k) refl

-- ---- its Fires, where it fires once or not

module _ (c : Circuit) (v v₁ : Values) (u u₁ : Units) (d d₁ : Delays) (f : State → Opened) (p : Place) (g : ℕ) (t : Bool) (r : Answer) (h : MovesOn v v₁ d d₁ f p g (bit t)) where
  pub fires_once : t ≡ true → Puts c u u₁ r p (fire 1 g) → Opens c (together v u d) (together v₁ u₁ d₁) r (f (together v u d).state)
  unfolding bit
  fires_once i k =
      advances_fire c v v₁ u u₁ d d₁ _ p g 1 r (subst (λ (b : Bool). Advances (together v u d) (together v₁ u d₁) (f (together v u d).state) p g (bit b)) i (h u)) k

pub fires_not : (c : Circuit) (v v₁ : Values) (u : Units) (d d₁ : Delays) (f : State → Opened) (p : Place) (g : ℕ) (t : Bool) → MovesOn v v₁ d d₁ f p g (bit t) → t ≡ false →
    Opens c (together v u d) (together v₁ u d₁) Done (f (together v u d).state)
unfolding bit
fires_not c v v₁ u d d₁ f p g t h i =
    advances_fire c v v₁ u u d d₁ _ p g 0 Done (subst (λ (b : Bool). Advances (together v u d) (together v₁ u d₁) (f (together v u d).state) p g (bit b)) i (h u)) (fires_none c p u g)

-- ---- buffers and Queues, by kind

module _ (c : Circuit) (dt g k : ℕ) (s : State) (ek : k ≡ kind_of_gate c g) where
  by_landing : OneOf (10 ∷ 12 ∷ []) k → advance_buffer c dt (unopened s) g ≡ landing c dt g s
  unfolding advance_buffer if◌then◌otherwise◌ landing unopened
  by_landing (inl e) = rw (sym ek ∙ e)
  by_landing (inr e) = rw (sym ek ∙ e)

  by_firing : OneOf (11 ∷ 13 ∷ []) k → advance_buffer c dt (unopened s) g ≡ firing c dt g s
  unfolding advance_buffer if◌then◌otherwise◌ firing unopened
  by_firing (inl e) = rw (sym ek ∙ e)
  by_firing (inr e) = rw (sym ek ∙ e)

  by_releasing : OneOf (16 ∷ 17 ∷ []) k → advance_buffer c dt (unopened s) g ≡ releasing c dt g s
  unfolding advance_buffer if◌then◌otherwise◌ releasing unopened
  by_releasing (inl e) = rw (sym ek ∙ e)
  by_releasing (inr e) = rw (sym ek ∙ e)

  by_none : (Unit {0} × (OneOf (10 ∷ 12 ∷ []) k → ⊥)) × (OneOf (11 ∷ 13 ∷ []) k → ⊥) → (OneOf (16 ∷ 17 ∷ []) k → ⊥) → advance_buffer c dt (unopened s) g ≡ unopened s
  unfolding advance_buffer if◌then◌otherwise◌ unopened
  by_none h i =
      rw
      (sym ek, ne_eqb k 10 (λ e. h.0.1 (inl e)), ne_eqb k 12 (λ e. h.0.1 (inr e)), ne_eqb k 11 (λ e. h.1 (inl e)), ne_eqb k 13 (λ e. h.1 (inr e)), ne_eqb k 16 (λ e. i (inl e)), ne_eqb k 17 (λ e. i (inr e)))

-- a number from 16 to 17, and one that is not
two : (k : ℕ) → 16 ≤ k → k < 18 → OneOf (16 ∷ 17 ∷ []) k
two k l h = go (eqb k 16) refl
  where
    go : (b : Bool) → eqb k 16 ≡ b → OneOf (16 ∷ 17 ∷ []) k
    go true e = inl (eqb-true k 16 e)
    go false e = inr (omega (arith, eqb-false k 16 e))

two_below : (k : ℕ) → k < 16 → OneOf (16 ∷ 17 ∷ []) k → ⊥
two_below k h (inl e) = omega arith
two_below k h (inr e) = omega arith

two_above : (k : ℕ) → 18 ≤ k → OneOf (16 ∷ 17 ∷ []) k → ⊥
two_above k h (inl e) = omega arith
two_above k h (inr e) = omega arith

is_queue_of : (c : Circuit) (g k : ℕ) → k ≡ kind_of_gate c g → OneOf (16 ∷ 17 ∷ []) k → is_queue c g ≡ true
unfolding is_queue within
is_queue_of c g k ek (inl e) = rw (sym ek ∙ e)
is_queue_of c g k ek (inr e) = rw (sym ek ∙ e)

pub is_queue_by : (c : Circuit) (g k : ℕ) → k ≡ kind_of_gate c g → 16 ≤ k → k < 18 → is_queue c g ≡ true
is_queue_by c g k ek l h = is_queue_of c g k ek (two k l h)

module _ (c : Circuit) (v v₁ : Values) (u : Units) (d d₁ : Delays) (dt g k : ℕ) (ek : k ≡ kind_of_gate c g) where
  pub buffer_lands : OneOf (10 ∷ 12 ∷ []) k → MovesOn v v₁ d d₁ (landing c dt g) to_late g 0 →
      Opens c (together v u d) (together v₁ u d₁) Done (advance_buffer c dt (unopened (together v u d).state) g)
  buffer_lands i h =
      subst (λ (z : Opened). Opens c (together v u d) (together v₁ u d₁) Done z) (sym (by_landing c dt g k (together v u d).state ek i))
      (advances_fire c v v₁ u u d d₁ _ to_late g 0 Done (h u) (fires_none c to_late u g))

module _ (c : Circuit) (v : Values) (u u₁ : Units) (d d₁ : Delays) (dt g k : ℕ) (ek : k ≡ kind_of_gate c g) where
  pub buffer_fires : (n : ℕ) (r : Answer) → OneOf (11 ∷ 13 ∷ []) k → Moves d d₁ g (advance_fires dt (delay_in d g)) [] n → Puts c u u₁ r to_late (fire n g) →
      Opens c (together v u d) (together v u₁ d₁) r (advance_buffer c dt (unopened (together v u d).state) g)
  unfolding firing delay set_outs
  buffer_fires n r i m h =
      subst (λ (z : Opened). Opens c (together v u d) (together v u₁ d₁) r z) (sym (by_firing c dt g k (together v u d).state ek i))
      (advances_fire c v v u u₁ d d₁ _ to_late g n r (advanced_by c v v u d d₁ to_late g 0 n _ [] m refl) h)

module _ (c : Circuit) (v v₁ : Values) (u u₁ : Units) (d d₁ : Delays) (dt g k : ℕ) (r : Answer) (ek : k ≡ kind_of_gate c g) where
  pub buffer_releases : 16 ≤ k → k < 18 → Opens c (together v u d) (together v₁ u₁ d₁) r (releasing c dt g (together v u d).state) →
      Opens c (together v u d) (together v₁ u₁ d₁) r (advance_buffer c dt (unopened (together v u d).state) g)
  buffer_releases l h o =
      subst (λ (z : Opened). Opens c (together v u d) (together v₁ u₁ d₁) r z) (sym (by_releasing c dt g k (together v u d).state ek (two k l h))) o

module _ (c : Circuit) (v : Values) (u : Units) (d : Delays) (dt g k : ℕ) (ek : k ≡ kind_of_gate c g) (h : (Unit {0} × (OneOf (10 ∷ 12 ∷ []) k → ⊥)) × (OneOf (11 ∷ 13 ∷ []) k → ⊥)) where
  other : (OneOf (16 ∷ 17 ∷ []) k → ⊥) → Opens c (together v u d) (together v u d) Done (advance_buffer c dt (unopened (together v u d).state) g)
  other i =
      subst (λ (z : Opened). Opens c (together v u d) (together v u d) Done z) (sym (by_none c dt g k (together v u d).state ek h i)) (opens_none c (together v u d))

  pub buffer_below : k < 16 → Opens c (together v u d) (together v u d) Done (advance_buffer c dt (unopened (together v u d).state) g)
  buffer_below l = other (two_below k l)

  pub buffer_above : 18 ≤ k → Opens c (together v u d) (together v u d) Done (advance_buffer c dt (unopened (together v u d).state) g)
  buffer_above l = other (two_above k l)

-- ---- Clocks

-- the interval
pub interval_is : (c : Circuit) (w : Wires) (g i x y : ℕ) (u v : Value) → u ≡ setting c g 2 → x ≡ as_float one_point_zero u → v ≡ look c w i → y ≡ as_float x v →
    y ≡ as_float (as_float one_point_zero (setting c g 2)) (look c w i)
interval_is c w g i x y u v eu ex ev ey = ey ∙ (λ j. as_float (ex j) (ev j)) ∙ ap (λ (k : Value). as_float (as_float one_point_zero k) (look c w i)) eu

-- the next input
next_input : (c : Circuit) (g i : ℕ) → i ≡ input c g 0 → i + 1 ≡ input c g 1
unfolding input
next_input c g i e = omega arith

-- the wires changed, and then the gate moved on
moves_after :
    (v : Values) (w : Wires) (u : Units) (d : Delays) (b : Contents) (z : Opened) (p : Place) (g n : ℕ) → Advances (together (with_wires v w) u d) b z p g n →
    Advances (together v u d) b z p g n
moves_after v w u d b z p g n a = record { areas = a.areas; raises = a.raises }

module _
    (c : Circuit) (v v₁ v₂ : Values) (d d₁ : Delays) (g i y t n : ℕ) (a : Value) (on : Bool) (ei : i ≡ input c g 0) (e₁ : v₁ ≡ with_wires v (ready c v.wires i))
    (e₂ : v₂ ≡ with_wires v₁ (ready c v₁.wires (i + 1))) (ey : y ≡ as_float (as_float one_point_zero (setting c g 2)) (look c v₂.wires (i + 1)))
    (ea : a ≡ look c v₂.wires i) (eo : on ≡ enabled a) (et : t ≡ v₂.wires.dt) (m : Moves d d₁ g (advance_elapsed t y on (delay_in d g)) [] n)
  where
    clock_wires : Wires
    clock_wires = each (ready c) v.wires (from (input c g 0) 2)

    clock_values : v₂ ≡ with_wires v (each (ready c) v.wires (from (input c g 0) 2))
    unfolding each from
    clock_values =
        let q : i + 1 ≡ suc i = omega arith in
        e₂ ∙ ap (λ (x : Values). with_wires x (ready c x.wires (i + 1))) e₁ ∙ (λ j. with_wires v (ready c (ready c v.wires i) (q j)))
        ∙ (λ j. with_wires v (ready c (ready c v.wires (ei j)) (suc (ei j))))

    pub clock_moved : MovesOn v v₂ d d₁ (λ s. advance_clock c (unopened s) g) to_pending g n
    unfolding advance_clock advanced unopened readied read delay wires≔ delay≔ delays≔ count_changed changed≔
    clock_moved u =
        let w : Wires = each (ready c) v.wires (from (input c g 0) 2) in
        let q : v₂.wires ≡ w = ap (λ (x : Values). x.wires) clock_values in
        let pt : t ≡ w.dt = et ∙ ap (λ (x : Wires). x.dt) q in
        let py : y ≡ as_float (as_float one_point_zero (setting c g 2)) (look c w (input c g 1)) =
        ey ∙ (λ j. as_float (as_float one_point_zero (setting c g 2)) (look c (q j) (next_input c g i ei j)))
        in
        let po : on ≡ enabled (look c w (input c g 0)) = eo ∙ ap enabled (ea ∙ (λ j. look c (q j) (ei j))) in
        let k : Moves d d₁ g (advance_elapsed w.dt (as_float (as_float one_point_zero (setting c g 2)) (look c w (input c g 1))) (enabled (look c w (input c g 0))) (delay_in d g)) [] n =
        subst (λ (x : Moved). Moves d d₁ g x [] n) (λ j. advance_elapsed (pt j) (py j) (po j) (delay_in d g)) m
        in
        subst (λ (x : Values). Advances (together v u d) (together x u d₁) (advance_clock c (unopened (together v u d).state) g) to_pending g n) (sym clock_values)
        (moves_after v w u d _ _ to_pending g n (advanced_nothing c (with_wires v w) u d d₁ to_pending g n _ k))

module _ (c : Circuit) (v v₁ : Values) (u : Units) (d d₁ : Delays) (g : ℕ) (t : Bool) (h : MovesOn v v₁ d d₁ (λ s. advance_clock c (unopened s) g) to_pending g (bit t)) where
  pub clock_fires : (u₁ : Units) (r : Answer) → t ≡ true → Puts c u u₁ r to_pending (fire 1 g) →
      Opens c (together v u d) (together v₁ u₁ d₁) r (advance_clock c (unopened (together v u d).state) g)
  clock_fires u₁ r i k = fires_once c v v₁ u u₁ d d₁ (λ s. advance_clock c (unopened s) g) to_pending g t r h i k

  pub clock_waits : t ≡ false → Opens c (together v u d) (together v₁ u d₁) Done (advance_clock c (unopened (together v u d).state) g)
  clock_waits i = fires_not c v v₁ u d d₁ (λ s. advance_clock c (unopened s) g) to_pending g t h i

-- ---- Stopwatches

module _ (c : Circuit) (v v₁ : Values) (g o : ℕ) (x : Value) (t : Bool) where
  pub shows : t ≡ true → o ≡ output c g 0 → v₁ ≡ with_wires v (set_out c v.wires o x) →
      v₁ ≡ with_wires v (set_outs c v.wires (output c g 0) (if t then x ∷ [] otherwise []))
  unfolding if◌then◌otherwise◌ set_outs
  shows i eo e = rw i (e ∙ ap (λ (k : ℕ). with_wires v (set_out c v.wires k x)) eo)

pub shows_not : (c : Circuit) (v : Values) (g : ℕ) (x : Value) (t : Bool) → t ≡ false → v ≡ with_wires v (set_outs c v.wires (output c g 0) (if t then x ∷ [] otherwise []))
unfolding if◌then◌otherwise◌ set_outs
shows_not c v g x t i = rw i

module _
    (c : Circuit) (v v₁ v₂ : Values) (d d₁ : Delays) (g i l t : ℕ) (a : Value) (s : Stopwatch) (ei : i ≡ input c g 3) (e₁ : v₁ ≡ with_wires v (ready c v.wires i))
    (ea : a ≡ look c v₁.wires i) (el : l ≡ as_float 0 a) (et : t ≡ v₁.wires.dt)
    (m : Moves d d₁ g (advance_time t l (delay_in d g)) (stopwatch_moved s).row (stopwatch_moved s).fires)
    (e₂ : v₂ ≡ with_wires v₁ (set_outs c v₁.wires (output c g 0) (if s.shows then Float s.time ∷ [] otherwise [])))
  where
    timer_values : v₁ ≡ with_wires v (each (ready c) v.wires (from (input c g 3) 1))
    unfolding each from
    timer_values = e₁ ∙ (λ j. with_wires v (ready c v.wires (ei j)))

    pub timer_moved : MovesOn v v₂ d d₁ (λ s. advance_timer c (unopened s) g) to_late g (bit s.expired)
    unfolding advance_timer advanced unopened readied read delay wires≔ delay≔ delays≔ count_changed changed≔ stopwatch_moved moved
    timer_moved u =
        let w : Wires = each (ready c) v.wires (from (input c g 3) 1) in
        let q : v₁.wires ≡ w = ap (λ (x : Values). x.wires) timer_values in
        let pt : t ≡ w.dt = et ∙ ap (λ (x : Wires). x.dt) q in
        let pl : l ≡ as_float 0 (look c w (input c g 3)) = el ∙ ap (as_float 0) (ea ∙ (λ j. look c (q j) (ei j))) in
        let row : List Value = if s.shows then Float s.time ∷ [] otherwise [] in
        let k : Moves d d₁ g (advance_time w.dt (as_float 0 (look c w (input c g 3))) (delay_in d g)) row (bit s.expired) =
        subst (λ (x : Moved). Moves d d₁ g x row (bit s.expired)) (λ j. advance_time (pt j) (pl j) (delay_in d g)) m
        in
        let e : v₂ ≡ with_wires (with_wires v w) (set_outs c w (output c g 0) row) = e₂ ∙ ap (λ (x : Values). with_wires x (set_outs c x.wires (output c g 0) row)) timer_values in
        moves_after v w u d _ _ to_late g (bit s.expired) (advanced_by c (with_wires v w) v₂ u d d₁ to_late g 0 (bit s.expired) _ row k e)

module _ (c : Circuit) (v v₁ : Values) (u : Units) (d d₁ : Delays) (g : ℕ) (t : Bool) (h : MovesOn v v₁ d d₁ (λ s. advance_timer c (unopened s) g) to_late g (bit t)) where
  pub timer_fires : (u₁ : Units) (r : Answer) → t ≡ true → Puts c u u₁ r to_late (fire 1 g) →
      Opens c (together v u d) (together v₁ u₁ d₁) r (advance_timer c (unopened (together v u d).state) g)
  timer_fires u₁ r i k = fires_once c v v₁ u u₁ d d₁ (λ s. advance_timer c (unopened s) g) to_late g t r h i k

  pub timer_waits : t ≡ false → Opens c (together v u d) (together v₁ u d₁) Done (advance_timer c (unopened (together v u d).state) g)
  timer_waits i = fires_not c v v₁ u d d₁ (λ s. advance_timer c (unopened s) g) to_late g t h i
