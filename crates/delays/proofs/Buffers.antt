-- Laws of value buffers: each way out of the methods of buffer.rt.
use Prim.Native.Nat.{ℕ}
use mathlib.Core.Path.{◌≡◌, sym, ap, ◌∙◌}
use mathlib.Core.Bool.{Bool, true, false}
use mathlib.Core.List.{[], ◌∷◌}
use Rattle.std.specs.Prelude.{None, Some}
use mathlib.Core.Option.{none}
use Rattle.model.specs.declared.Value.{Value}
use Rattle.model.specs.Base.{if◌then◌otherwise◌}
use Rattle.model.specs.Value.{truthy}
use Rattle.model.specs.State.{idle, flight≔}
use Rattle.model.specs.Delays.{Started, tick_down, due, moved, launch, buffer_input, landed, flown, advance_flight}
use Rattle.delays.specs.declared.countdown.Countdown.{Countdown as Counting}
use Rattle.delays.specs.declared.countdown.Started.{Started as Starting}
use Rattle.delays.specs.declared.buffer.Buffer.{Buffer}
use Rattle.delays.specs.declared.buffer.Flight.{Flight}
use Rattle.delays.specs.States.{counted, started, countdown_by, starts, flight_of, row_of, buffer, buffer_moved}

-- ---- a new input

pub input_starts : (b : Buffer) (v : Value) (k : Counting) → b.flight ≡ None
    → buffer_moved (record { flight = Some (record { what = v; left = k }); later = b.later; landed = None; changed = false }) ≡ moved (buffer_input (buffer b) v (counted k)) [] 0
unfolding buffer_moved buffer flight_of row_of buffer_input moved flight≔ idle
input_starts b v k e = rw e

pub input_remembered : (b : Buffer) (v : Value) (k : Counting) (f : Flight) → b.flight ≡ Some f
    → buffer_moved (record { flight = b.flight; later = Some v; landed = None; changed = false }) ≡ moved (buffer_input (buffer b) v (counted k)) [] 0
unfolding buffer_moved buffer flight_of row_of launch buffer_input moved flight≔ idle
input_remembered b v k f e = rw e

-- ---- the remembered input

module _ (b : Buffer) (v : Value) (s : Bool) (wait zero_wait : Value) where
  pub lands_last : b.later ≡ None
      → buffer_moved (record { flight = None; later = None; landed = Some v; changed = false }) ≡ landed (starts s wait zero_wait) (buffer b) v
  unfolding buffer_moved buffer flight_of row_of landed moved flight≔ idle
  lands_last e = rw e

  pub lands_starting : (u : Value) (rising : Bool) (k : Starting) → b.later ≡ Some u → rising ≡ truthy u → started k ≡ countdown_by s rising wait zero_wait
      → buffer_moved (record { flight = Some (record { what = u; left = k.left }); later = None; landed = Some v; changed = k.changed }) ≡ landed (starts s wait zero_wait) (buffer b) v
  unfolding buffer_moved buffer flight_of row_of landed starts started flight≔ idle
  lands_starting u rising k e t h =
      rw (e, ← t) (ap (λ (x : Started). record { state = flight≔ idle (launch u x.left) none; row = v ∷ []; fires = 0; changed = x.changed }) h)

-- ---- a tick

module _ (b : Buffer) (dt : ℕ) (s : Bool) (wait zero_wait : Value) where
  pub advance_none : b.flight ≡ None
      → buffer_moved (record { flight = b.flight; later = b.later; landed = None; changed = false }) ≡ advance_flight (starts s wait zero_wait) dt (buffer b)
  unfolding buffer_moved buffer flight_of row_of advance_flight moved flight≔ idle
  advance_none e = rw e

  module _ (f : Flight) (left : Counting) (over : Bool) (e : b.flight ≡ Some f) (t : counted left ≡ tick_down dt (counted f.left)) (o : over ≡ due (counted left)) where
    flies : advance_flight (starts s wait zero_wait) dt (buffer b) ≡ flown (starts s wait zero_wait) (buffer b) f.what (counted left)
    unfolding buffer flight_of launch advance_flight flight≔ idle
    flies = rw (e, t)

    pub advance_lands : (r : Buffer) → over ≡ true → buffer_moved r ≡ landed (starts s wait zero_wait) (buffer b) f.what
        → buffer_moved r ≡ advance_flight (starts s wait zero_wait) dt (buffer b)
    unfolding flown if◌then◌otherwise◌
    advance_lands r h p = let q : due (counted left) ≡ true = sym o ∙ h in rw (flies, q) p

    pub advance_flies : over ≡ false
        → buffer_moved (record { flight = Some (record { what = f.what; left = left }); later = b.later; landed = None; changed = false }) ≡ advance_flight (starts s wait zero_wait) dt (buffer b)
    unfolding buffer_moved flown row_of buffer flight_of moved flight≔ idle if◌then◌otherwise◌
    advance_flies h = let q : due (counted left) ≡ false = sym o ∙ h in flies_on q ∙ sym flies
      where
        flies_on : due (counted left) ≡ false
            → moved (buffer (record { flight = Some (record { what = f.what; left = left }); later = b.later; landed = None; changed = false })) [] 0 ≡ flown (starts s wait zero_wait) (buffer b) f.what (counted left)
        flies_on q = rw q
