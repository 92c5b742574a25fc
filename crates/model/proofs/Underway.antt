-- What holds of all that gates have under way, their small states, where P holds of the values in it and T of the seconds so far: each move of them keeps it, and each change of a state that has them.
use mathlib.Core.Path.{◌≡◌}
use mathlib.Core.Bool.{Bool, true, false, ◌&&◌}
use mathlib.Core.List.{List, [], ◌∷◌}
use mathlib.Core.Option.{Option, none, some}
use Prim.Native.Nat.{ℕ, suc, ◌≤◌}
use native.Mathlib.Omega.{arith}
use lib.ListN.{length, get_or, length-map}
use Rattle.schedule.specs.Promise.{All, [·], ◌∷·◌}
use Rattle.schedule.proofs.Members.{all_append}
use Rattle.model.specs.declared.Value.{Value}
use Rattle.model.specs.declared.Value.TheVariants.{Float}
use Rattle.model.specs.Base.{snoc, from}
use Rattle.model.specs.Value.{plus64, lt64, le64}
use Rattle.model.specs.Circuit.{Circuit, input}
use Rattle.model.specs.State.{Wires, Countdown, Flight, Queued, Delay, Send, State, idle, flight≔, fires≔, elapsed≔, records≔, delays≔, outbox≔, changed≔}
use Rattle.model.specs.Wires.{look}
use Rattle.model.specs.Delays.{Started, Moved, moved, tick_down, due, launch, buffer_input, landed, flown, advance_flight, drop_due, advance_fires, queue_record, hand_out, advance_records, clock_at, advance_elapsed, stopwatch_at, advance_time, pressed}
use Rattle.model.specs.Exec.{count_changed, delay, delay≔, read_row}
use Rattle.model.proofs.Lists.{places_set, if_both, if_by, from_length, map_all, all_of}

-- P holds of what is there, if anything is
pub data Each {A : Type 0} (P : A → Type 0) : Option A → Type 0 where
  no : Each P none
  yes : {a : A} → P a → Each P (some a)

-- a row of at most eight values
pub record Row (P : Value → Type 0) (vs : List Value) : Type 0 where
  pub few : length vs ≤ 8
  pub each : All P vs

-- what is in flight
abbrev InFlight : (Value → Type 0) → Option Flight → Type 0
InFlight P = Each (λ (f : Flight). P f.what)

-- a small state
pub record Held (P : Value → Type 0) (T : ℕ → Type 0) (d : Delay) : Type 0 where
  pub flight : InFlight P d.flight
  pub later : Each P d.later
  pub elapsed : T d.elapsed
  pub records : All (λ (q : Queued). Row P q.row) d.records

-- one that has moved on by a tick, and hands out a row of at most n values
pub record MovedOn (P : Value → Type 0) (T : ℕ → Type 0) (n : ℕ) (m : Moved) : Type 0 where
  pub state : Held P T m.state
  pub few : length m.row ≤ n
  pub each : All P m.row

launched : (P : Value → Type 0) (v : Value) (k : Countdown) → P v → InFlight P (launch v k)
unfolding launch
launched P v k r = yes r

module _ {P : Value → Type 0} {T : ℕ → Type 0} where
  -- ---- one part changed

  pub fires_held : {d : Delay} (ks : List Countdown) → Held P T d → Held P T (fires≔ d ks)
  unfolding fires≔
  fires_held ks h = record { flight = h.flight; later = h.later; elapsed = h.elapsed; records = h.records }

  elapsed_held : {d : Delay} (t : ℕ) (b : Bool) → T t → Held P T d → Held P T (elapsed≔ d t b)
  unfolding elapsed≔
  elapsed_held t b r h = record { flight = h.flight; later = h.later; elapsed = r; records = h.records }

  records_held : {d : Delay} (qs : List Queued) → All (λ (q : Queued). Row P q.row) qs → Held P T d → Held P T (records≔ d qs)
  unfolding records≔
  records_held qs a h = record { flight = h.flight; later = h.later; elapsed = h.elapsed; records = a }

  flight_held : {d : Delay} (f : Option Flight) (l : Option Value) → InFlight P f → Each P l → Held P T d → Held P T (flight≔ d f l)
  unfolding flight≔
  flight_held f l a b h = record { flight = a; later = b; elapsed = h.elapsed; records = h.records }

  -- ---- what comes to it

  pub queue_held : {d : Delay} (row : List Value) (k : Countdown) → Row P row → Held P T d → Held P T (queue_record d row k)
  unfolding queue_record snoc
  queue_held row k r h = if_both (Held P T) _ (records_held _ (all_append h.records (◌∷·◌ r [·])) h) h

  pub buffer_held : (d : Delay) (v : Value) (k : Countdown) → P v → Held P T d → Held P T (buffer_input d v k)
  unfolding buffer_input
  buffer_held d v k r h = go d.flight h.flight
    where
      go : (x : Option Flight) → InFlight P x → Held P T (elim x as (λ _. Delay) [ none ↦ flight≔ d (launch v k) d.later | some y ↦ flight≔ d (some y) (some v) ])
      go none e = flight_held _ _ (launched P v k r) h.later h
      go (some y) e = flight_held _ _ e (yes r) h

  -- ---- moving on by a tick

  landed_held : (start : Value → Started) (d : Delay) (v : Value) → P v → Held P T d → MovedOn P T 1 (landed start d v)
  unfolding landed moved
  landed_held start d v r h = go d.later h.later
    where
      go :
          (x : Option Value) → Each P x →
          MovedOn P T 1 (elim x as (λ _. Moved) [
            | none ↦ moved (flight≔ d none none) (v ∷ []) 0
            | some u ↦ record { state = flight≔ d (launch u (start u).left) none; row = v ∷ []; fires = 0; changed = (start u).changed }
          ])
      go none e = record { state = flight_held _ _ no no h; few = omega arith; each = ◌∷·◌ r [·] }
      go (some u) (yes q) = record { state = flight_held _ _ (launched P u (start u).left q) no h; few = omega arith; each = ◌∷·◌ r [·] }

  pub advance_flight_held : (start : Value → Started) (dt : ℕ) (d : Delay) → Held P T d → MovedOn P T 1 (advance_flight start dt d)
  unfolding advance_flight flown moved
  advance_flight_held start dt d h = go d.flight h.flight
    where
      go : (x : Option Flight) → InFlight P x → MovedOn P T 1 (elim x as (λ _. Moved) [ none ↦ moved d [] 0 | some y ↦ flown start d y.what (tick_down dt y.left) ])
      go none e = record { state = h; few = omega arith; each = [·] }
      go (some y) (yes r) =
          if_both (MovedOn P T 1) _
          (landed_held start d y.what r h)
          (record { state = flight_held _ _ (launched P y.what (tick_down dt y.left) r) h.later h; few = omega arith; each = [·] })

  drop_due_held : (d : Delay) (ks : List Countdown) (n : ℕ) → Held P T d → MovedOn P T 0 (drop_due d ks n)
  unfolding drop_due moved
  drop_due_held d [] n h = record { state = fires_held [] h; few = omega arith; each = [·] }
  drop_due_held d (k ∷ ks) n h = go (due k) (drop_due_held d ks (suc n) h)
    where
      go : (b : Bool) → MovedOn P T 0 (drop_due d ks (suc n)) → MovedOn P T 0 (elim b as (λ _. Moved) [ true ↦ drop_due d ks (suc n) | false ↦ moved (fires≔ d (k ∷ ks)) [] n ])
      go true r = r
      go false r = record { state = fires_held (k ∷ ks) h; few = omega arith; each = [·] }

  pub advance_fires_held : (dt : ℕ) (d : Delay) → Held P T d → MovedOn P T 0 (advance_fires dt d)
  unfolding advance_fires
  advance_fires_held dt d h = drop_due_held d _ 0 h

  hand_out_held : (d : Delay) (qs : List Queued) → All (λ (q : Queued). Row P q.row) qs → Held P T d → MovedOn P T 8 (hand_out d qs)
  unfolding hand_out moved
  hand_out_held d [] a h = record { state = records_held [] [·] h; few = omega arith; each = [·] }
  hand_out_held d (q ∷ qs) (◌∷·◌ r a) h =
      if_both (MovedOn P T 8) _
      (record { state = records_held qs a h; few = r.few; each = r.each })
      (record { state = records_held (q ∷ qs) (◌∷·◌ r a) h; few = omega arith; each = [·] })

  pub advance_records_held : (dt : ℕ) (d : Delay) → Held P T d → MovedOn P T 8 (advance_records dt d)
  unfolding advance_records
  advance_records_held dt d h = hand_out_held d _ (map_all (λ (q : Queued). Row P q.row) _ h.records) h

  -- ---- Clocks and Stopwatches, which begin at 0.0
  module _ (zero_time : T 0) where
    pub idle_held : Held P T idle
    unfolding idle
    idle_held = record { flight = no; later = no; elapsed = zero_time; records = [·] }

    pub pressed_held : {d : Delay} (p : ℕ) → Held P T d → Held P T (pressed p d)
    unfolding pressed
    pressed_held p h = if_both (Held P T) _ (elapsed_held 0 true zero_time h) (elapsed_held _ _ h.elapsed h)

    pub advance_elapsed_held : (dt interval : ℕ) (on : Bool) (d : Delay) → T (plus64 d.elapsed dt) → Held P T d → MovedOn P T 0 (advance_elapsed dt interval on d)
    unfolding advance_elapsed clock_at moved
    advance_elapsed_held dt interval on d r h =
        if_both (MovedOn P T 0) _
        (if_both (MovedOn P T 0) _
        (record { state = elapsed_held 0 false zero_time h; few = omega arith; each = [·] })
        (record { state = elapsed_held (plus64 d.elapsed dt) false r h; few = omega arith; each = [·] }))
        (record { state = h; few = omega arith; each = [·] })

  -- a Stopwatch shows its time, and its limit where that is reached
  pub advance_time_held :
      (dt limit : ℕ) (d : Delay) → ((lt64 0 limit && le64 limit (plus64 d.elapsed dt)) ≡ true → T limit) → T (plus64 d.elapsed dt) →
      ((t : ℕ) → T t → P (Float t)) → Held P T d → MovedOn P T 1 (advance_time dt limit d)
  unfolding advance_time stopwatch_at moved
  advance_time_held dt limit d l r shows h =
      if_both (MovedOn P T 1) _
      (if_by (MovedOn P T 1) (lt64 0 limit && le64 limit (plus64 d.elapsed dt))
      (λ e. record { state = elapsed_held limit false (l e) h; few = omega arith; each = ◌∷·◌ (shows limit (l e)) [·] })
      (λ _. record { state = elapsed_held (plus64 d.elapsed dt) true r h; few = omega arith; each = ◌∷·◌ (shows _ r) [·] }))
      (record { state = h; few = omega arith; each = [·] })

-- ---- states, where W holds of the wires

-- events with at most eight values
abbrev pub SendsHeld : (Value → Type 0) → List Send → Type 0
SendsHeld P ms = All (λ (m : Send). Row P m.row) ms

-- a state
pub record StateHeld (W : Wires → Type 0) (P : Value → Type 0) (T : ℕ → Type 0) (s : State) : Type 0 where
  pub wires : W s.wires
  pub delays : (g : ℕ) → Held P T (get_or s.delays g idle)
  pub outbox : SendsHeld P s.outbox

-- a row that is read, where P holds of what an input reads
pub read_row_held : {P : Value → Type 0} (c : Circuit) (s : State) (g p n : ℕ) → n ≤ 8 → ((i : ℕ) → P (look c s.wires i)) → Row P (read_row c s g p n)
unfolding read_row
read_row_held {P} c s g p n l r =
    record {
      few = omega (arith, length-map (from (input c g p) n) (look c s.wires), from_length (input c g p) n);
      each = map_all P (look c s.wires) (all_of r (from (input c g p) n));
    }

module _ {W : Wires → Type 0} {P : Value → Type 0} {T : ℕ → Type 0} where
  pub delay_of : (c : Circuit) (s : State) → StateHeld W P T s → (g : ℕ) → Held P T (delay c s g)
  unfolding delay
  delay_of c s z g = z.delays g

  module _ {s : State} where
    pub delay_held : (c : Circuit) (g : ℕ) (d : Delay) → Held P T d → StateHeld W P T s → StateHeld W P T (delay≔ c s g d)
    unfolding delay≔ delays≔
    delay_held c g d h z = record { wires = z.wires; delays = places_set (λ _. Held P T) s.delays g d idle h z.delays; outbox = z.outbox }

    pub outbox_held : (x : List Send) → SendsHeld P x → StateHeld W P T s → StateHeld W P T (outbox≔ s x)
    unfolding outbox≔
    outbox_held x a z = record { wires = z.wires; delays = z.delays; outbox = a }

    pub changed_held : (n : ℕ) → StateHeld W P T s → StateHeld W P T (changed≔ s n)
    unfolding changed≔
    changed_held n z = record { wires = z.wires; delays = z.delays; outbox = z.outbox }

    pub count_held : (changed : Bool) → StateHeld W P T s → StateHeld W P T (count_changed s changed)
    unfolding count_changed
    count_held changed z = changed_held _ z
