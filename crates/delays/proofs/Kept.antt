-- A state of one kind is a part of the definition's Delay: what moves that part on does the same to a Delay with all its parts, and the others are kept.
-- So code that stores the parts of a gate may move them on by value.
use Prim.Native.Nat.{ℕ}
use mathlib.Core.Path.{◌≡◌, refl, sym, ap, ◌∙◌}
use mathlib.Core.Bool.{Bool, true, false, ◌&&◌}
use mathlib.Core.List.{List, [], ◌∷◌, map}
use mathlib.Core.Option.{Option, none, some}
use lib.Dec.{ltb, eqb}
use lib.ListN.{length}
use Rattle.model.specs.declared.Value.{Value}
use Rattle.model.specs.declared.Value.TheVariants.{Float}
use Rattle.model.specs.Base.{if◌then◌otherwise◌}
use Rattle.model.specs.Value.{bit, plus64, le64, lt64}
use Rattle.model.specs.State.{Countdown, Flight, Queued, Delay, idle, flight≔, fires≔, elapsed≔}
use Rattle.model.specs.Delays.{Started, Moved, moved, tick_down, due, buffer_input, landed, flown, advance_flight, advance_fires, clock_at, advance_elapsed, stopwatch_at, advance_time, pressed}
use Rattle.delays.specs.declared.buffer.Buffer.{Buffer}
use Rattle.delays.specs.declared.fires.Fires.{Fires}
use Rattle.delays.specs.declared.clock.Clock.{Clock}
use Rattle.delays.specs.declared.stopwatch.Stopwatch.{Stopwatch}
use Rattle.words.specs.Options.{option_of}
use Rattle.delays.specs.States.{flight_of, row_of, buffer, buffer_moved, fires_of, fires, fires_moved, add_fire, clock, clock_moved, stopwatch, stopwatch_moved}
use Rattle.delays.proofs.Firing.{with_fires, moved_fires, drop_kept}

-- a Delay by its parts
abbrev made : Option Flight → Option Value → List Countdown → ℕ → Bool → List Queued → Delay
made f l ks t r qs = record { flight = f; later = l; fires = ks; elapsed = t; running = r; records = qs }

-- what holds of Delays by their parts
by_parts : (P : Delay → Type 0) → ((f : Option Flight) (l : Option Value) (ks : List Countdown) (t : ℕ) (r : Bool) (qs : List Queued) → P (made f l ks t r qs))
    → (d : Delay) → P d
by_parts P k d = k d.flight d.later d.fires d.elapsed d.running d.records

-- ---- a value buffer

-- a Delay that has only this part of d
unfoldable pub only_flight : Delay → Delay
only_flight d = flight≔ idle d.flight d.later

-- d with this part of e
unfoldable pub with_flight : Delay → Delay → Delay
with_flight d e = flight≔ d e.flight e.later

-- the same of what moved on
unfoldable pub moved_flight : Delay → Moved → Moved
moved_flight d m = record { state = with_flight d m.state; row = m.row; fires = m.fires; changed = m.changed }

pub input_kept : (d : Delay) (v : Value) (k : Countdown) → buffer_input d v k ≡ with_flight d (buffer_input (only_flight d) v k)
unfolding only_flight with_flight buffer_input flight≔ idle
input_kept d v k = by_parts (λ e. buffer_input e v k ≡ with_flight e (buffer_input (only_flight e) v k)) go d
  where
    go : (f : Option Flight) (l : Option Value) (ks : List Countdown) (t : ℕ) (r : Bool) (qs : List Queued)
        → buffer_input (made f l ks t r qs) v k ≡ with_flight (made f l ks t r qs) (buffer_input (only_flight (made f l ks t r qs)) v k)
    go none l ks t r qs = refl
    go (some x) l ks t r qs = refl

landed_kept : (start : Value → Started) (v : Value) (d : Delay) → landed start d v ≡ moved_flight d (landed start (only_flight d) v)
unfolding only_flight with_flight moved_flight landed moved flight≔ idle
landed_kept start v = by_parts (λ e. landed start e v ≡ moved_flight e (landed start (only_flight e) v)) go
  where
    go : (f : Option Flight) (l : Option Value) (ks : List Countdown) (t : ℕ) (r : Bool) (qs : List Queued)
        → landed start (made f l ks t r qs) v ≡ moved_flight (made f l ks t r qs) (landed start (only_flight (made f l ks t r qs)) v)
    go f none ks t r qs = refl
    go f (some u) ks t r qs = refl

flown_kept : (start : Value → Started) (d : Delay) (v : Value) (k : Countdown) → flown start d v k ≡ moved_flight d (flown start (only_flight d) v k)
unfolding only_flight with_flight moved_flight flown moved flight≔ idle if◌then◌otherwise◌
flown_kept start d v k = go (due k) refl
  where
    go : (b : Bool) → due k ≡ b → flown start d v k ≡ moved_flight d (flown start (only_flight d) v k)
    go true e = rw e (landed_kept start v d)
    go false e = rw e

pub flight_kept : (start : Value → Started) (dt : ℕ) (d : Delay) → advance_flight start dt d ≡ moved_flight d (advance_flight start dt (only_flight d))
unfolding advance_flight only_flight moved_flight with_flight flight≔ idle moved
flight_kept start dt = by_parts (λ e. advance_flight start dt e ≡ moved_flight e (advance_flight start dt (only_flight e))) go
  where
    go : (f : Option Flight) (l : Option Value) (ks : List Countdown) (t : ℕ) (r : Bool) (qs : List Queued)
        → advance_flight start dt (made f l ks t r qs) ≡ moved_flight (made f l ks t r qs) (advance_flight start dt (only_flight (made f l ks t r qs)))
    go none l ks t r qs = refl
    go (some x) l ks t r qs = flown_kept start (made (some x) l ks t r qs) x.what (tick_down dt x.left)

-- the same for code: d's part is held by b, and r came of it
module _ (d : Delay) (b r : Buffer) (e : flight_of b.flight ≡ d.flight) (f : option_of b.later ≡ d.later) where
  buffer_only : buffer b ≡ only_flight d
  unfolding buffer only_flight
  buffer_only = λ j. flight≔ idle (e j) (f j)

  pub buffer_stored : (start : Value → Started) (dt : ℕ) → buffer_moved r ≡ advance_flight start dt (buffer b)
      → record { state = flight≔ d (flight_of r.flight) (option_of r.later); row = row_of r.landed; fires = 0; changed = r.changed } ≡ advance_flight start dt d
  unfolding moved_flight with_flight buffer_moved buffer flight≔ moved
  buffer_stored start dt h = ap (moved_flight d) (h ∙ ap (advance_flight start dt) buffer_only) ∙ sym (flight_kept start dt d)

  pub input_stored : (v : Value) (k : Countdown) → buffer_moved r ≡ moved (buffer_input (buffer b) v k) [] 0
      → flight≔ d (flight_of r.flight) (option_of r.later) ≡ buffer_input d v k
  unfolding with_flight buffer_moved buffer flight≔ moved
  input_stored v k h =
      ap (λ (m : Moved). with_flight d m.state) h ∙ ap (λ (x : Delay). with_flight d (buffer_input x v k)) buffer_only ∙ sym (input_kept d v k)

-- ---- a buffer in exec mode

-- a Delay that has only this part of d
unfoldable pub only_fires : Delay → Delay
only_fires d = fires≔ idle d.fires

pub fires_kept : (dt : ℕ) (d : Delay) → advance_fires dt d ≡ moved_fires d (advance_fires dt (only_fires d))
unfolding advance_fires only_fires fires≔
fires_kept dt d = drop_kept d (only_fires d) (map (tick_down dt) d.fires) 0

pub add_kept : (d : Delay) (k : Countdown) → add_fire d k ≡ with_fires d (add_fire (only_fires d) k)
unfolding add_fire only_fires with_fires fires≔ if◌then◌otherwise◌
add_kept d k = go (ltb (length d.fires) 32) refl
  where
    go : (b : Bool) → ltb (length d.fires) 32 ≡ b → add_fire d k ≡ with_fires d (add_fire (only_fires d) k)
    go true e = rw e
    go false e = rw e

-- the same for code
module _ (d : Delay) (f r : Fires) (e : fires_of f ≡ d.fires) where
  fires_only : fires f ≡ only_fires d
  unfolding fires only_fires
  fires_only = ap (fires≔ idle) e

  pub fires_stored : (dt : ℕ) → fires_moved r ≡ advance_fires dt (fires f) → moved (fires≔ d (fires_of r)) [] r.fired ≡ advance_fires dt d
  unfolding moved_fires with_fires fires_moved fires fires≔ moved
  fires_stored dt h = ap (moved_fires d) (h ∙ ap (advance_fires dt) fires_only) ∙ sym (fires_kept dt d)

  pub add_stored : (k : Countdown) → fires_moved r ≡ moved (add_fire (fires f) k) [] 0 → fires≔ d (fires_of r) ≡ add_fire d k
  unfolding with_fires fires_moved fires fires≔ moved
  add_stored k h = ap (λ (m : Moved). with_fires d m.state) h ∙ ap (λ (x : Delay). with_fires d (add_fire x k)) fires_only ∙ sym (add_kept d k)

-- ---- a Clock and a Stopwatch

-- a Delay that has only this part of d
unfoldable pub only_elapsed : Delay → Delay
only_elapsed d = elapsed≔ idle d.elapsed d.running

-- d with this part of e
unfoldable pub with_elapsed : Delay → Delay → Delay
with_elapsed d e = elapsed≔ d e.elapsed e.running

-- the same of what moved on
unfoldable pub moved_elapsed : Delay → Moved → Moved
moved_elapsed d m = moved (with_elapsed d m.state) m.row m.fires

-- where two states move on to one of two, each with this part alone changed
either_kept : (d e : Delay) (b : Bool) (t₁ t₂ : ℕ) (r₁ r₂ : Bool) (x₁ x₂ : List Value) (n₁ n₂ : ℕ)
    → (if b then moved (elapsed≔ d t₁ r₁) x₁ n₁ otherwise moved (elapsed≔ d t₂ r₂) x₂ n₂)
    ≡ moved_elapsed d (if b then moved (elapsed≔ e t₁ r₁) x₁ n₁ otherwise moved (elapsed≔ e t₂ r₂) x₂ n₂)
unfolding moved_elapsed with_elapsed elapsed≔ moved if◌then◌otherwise◌
either_kept d e true t₁ t₂ r₁ r₂ x₁ x₂ n₁ n₂ = refl
either_kept d e false t₁ t₂ r₁ r₂ x₁ x₂ n₁ n₂ = refl

-- an enabled Clock sees its seconds alone
enabled_kept : (dt interval : ℕ) (d e : Delay) → e.elapsed ≡ d.elapsed → advance_elapsed dt interval true d ≡ moved_elapsed d (advance_elapsed dt interval true e)
unfolding advance_elapsed clock_at elapsed≔ if◌then◌otherwise◌
enabled_kept dt interval d e q =
    rw q (either_kept d e (le64 interval (plus64 d.elapsed dt)) 0 (plus64 d.elapsed dt) false false [] [] 1 0)

pub clock_kept : (dt interval : ℕ) (enabled : Bool) (d : Delay)
    → advance_elapsed dt interval enabled d ≡ moved_elapsed d (advance_elapsed dt interval enabled (only_elapsed d))
unfolding advance_elapsed only_elapsed moved_elapsed with_elapsed elapsed≔ moved if◌then◌otherwise◌
clock_kept dt interval true d = enabled_kept dt interval d (only_elapsed d) refl
clock_kept dt interval false d = refl

pub stopwatch_kept : (dt limit : ℕ) (d : Delay) → advance_time dt limit d ≡ moved_elapsed d (advance_time dt limit (only_elapsed d))
unfolding advance_time stopwatch_at only_elapsed moved_elapsed with_elapsed elapsed≔ idle moved if◌then◌otherwise◌
stopwatch_kept dt limit d = go d.running refl
  where
    go : (b : Bool) → d.running ≡ b → advance_time dt limit d ≡ moved_elapsed d (advance_time dt limit (only_elapsed d))
    go true e =
        rw e
        (either_kept d (only_elapsed d) (lt64 0 limit && le64 limit (plus64 d.elapsed dt)) limit (plus64 d.elapsed dt) false true (Float limit ∷ []) (Float (plus64 d.elapsed dt) ∷ []) 1 0)
    go false e = rw e

pub pressed_kept : (p : ℕ) (d : Delay) → pressed p d ≡ with_elapsed d (pressed p (only_elapsed d))
unfolding pressed only_elapsed with_elapsed elapsed≔ idle if◌then◌otherwise◌
pressed_kept p d = go (eqb p 0) refl
  where
    go : (b : Bool) → eqb p 0 ≡ b → pressed p d ≡ with_elapsed d (pressed p (only_elapsed d))
    go true e = rw e
    go false e = rw e

-- the same for code
pub clock_stored : (d : Delay) (c r : Clock) → c.elapsed ≡ d.elapsed → (dt interval : ℕ) (enabled : Bool) → clock_moved r ≡ advance_elapsed dt interval enabled (clock c)
    → moved (elapsed≔ d r.elapsed (if enabled then false otherwise d.running)) [] (bit r.fired) ≡ advance_elapsed dt interval enabled d
unfolding advance_elapsed clock_moved clock moved_elapsed with_elapsed elapsed≔ idle moved if◌then◌otherwise◌
clock_stored d c r e dt interval true h = ap (moved_elapsed d) h ∙ sym (enabled_kept dt interval d (clock c) e)
clock_stored d c r e dt interval false h =
    ap (λ (m : Moved). moved (elapsed≔ d m.state.elapsed d.running) [] m.fires) h ∙ ap (λ (t : ℕ). moved (elapsed≔ d t d.running) [] 0) e

module _ (d : Delay) (s r : Stopwatch) (e : s.time ≡ d.elapsed) (f : s.running ≡ d.running) where
  stopwatch_only : stopwatch s ≡ only_elapsed d
  unfolding stopwatch only_elapsed
  stopwatch_only = λ j. elapsed≔ idle (e j) (f j)

  pub stopwatch_stored : (dt limit : ℕ) → stopwatch_moved r ≡ advance_time dt limit (stopwatch s)
      → moved (elapsed≔ d r.time r.running) (if r.shows then Float r.time ∷ [] otherwise []) (bit r.expired) ≡ advance_time dt limit d
  unfolding moved_elapsed with_elapsed stopwatch_moved stopwatch elapsed≔ moved
  stopwatch_stored dt limit h = ap (moved_elapsed d) (h ∙ ap (advance_time dt limit) stopwatch_only) ∙ sym (stopwatch_kept dt limit d)

  pub pressed_stored : (p : ℕ) → stopwatch_moved r ≡ moved (pressed p (stopwatch s)) [] 0 → elapsed≔ d r.time r.running ≡ pressed p d
  unfolding with_elapsed stopwatch_moved stopwatch elapsed≔ moved
  pressed_stored p h = ap (λ (m : Moved). with_elapsed d m.state) h ∙ ap (λ (x : Delay). with_elapsed d (pressed p x)) stopwatch_only ∙ sym (pressed_kept p d)
