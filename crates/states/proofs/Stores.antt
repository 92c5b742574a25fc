-- What the stores into a slot come to: one law for each way out of a function.
use Prim.Native.Nat.{ℕ, ◌≤◌}
use mathlib.Core.Path.{◌≡◌, refl, sym, ap, ap₂, ◌∙◌}
use mathlib.Core.Bool.{Bool, true, false, not}
use mathlib.Core.List.{List, [], ◌∷◌}
use mathlib.Core.Option as math
use mathlib.Core.Option.{none, some}
use native.Mathlib.Omega.{arith}
use mir.Val.{bool_byte}
use borrow.Author.Tests.{ne_eqb, not-true, not-false}
use lib.Dec.{leb, eqb}
use lib.ListN.{length, get_or, set}
use Rattle.words.specs.Words.{words}
use Rattle.words.specs.Tables.{marked}
use Rattle.words.proofs.Laws.{words_long}
use Rattle.model.specs.declared.Value.{Value}
use Rattle.model.specs.declared.Value.TheVariants.{Float}
use Rattle.model.specs.Base.{if◌then◌otherwise◌}
use Rattle.model.specs.Value.{value_of, kind_of, content_of, truthy, bit}
use Rattle.model.specs.Circuit.{Circuit, part, kind_of_gate, setting}
use Rattle.model.specs.State.{Countdown, Flight, Queued, Delay, flight≔, elapsed≔}
use Rattle.model.specs.Delays.{Started, Moved, moved, launch, buffer_input, landed, flown, advance_flight, tick_down, due, advance_elapsed, advance_time, pressed}
use Rattle.model.specs.Exec.{countdown}
use Rattle.value.proofs.Laws.{made_again}
use Rattle.delays.specs.declared.countdown.Countdown.{Countdown as Counting}
use Rattle.delays.specs.declared.buffer.Buffer.{Buffer}
use Rattle.delays.specs.declared.buffer.Flight.{Flight as Flying}
use Rattle.std.specs.Prelude.{Option, None, Some}
use Rattle.words.specs.Options.{option_of}
use Rattle.delays.specs.States.{counted, counts_seconds, word_of, of_word, starts, flight_of, row_of, buffer, buffer_moved, clock, clock_moved, stopwatch, stopwatch_moved}
use Rattle.delays.specs.declared.clock.Clock.{Clock}
use Rattle.delays.specs.declared.stopwatch.Stopwatch.{Stopwatch}
use Rattle.delays.proofs.Kept.{buffer_stored, input_stored, clock_stored, stopwatch_stored}
use Rattle.delays.proofs.Countdowns.{of_gate, kind_by, kind_word, kind_tick}
use Rattle.states.specs.View.{flight_in, later_in, fires_in, delay_of}
use Rattle.states.specs.Slots.{Becomes, BecomesAny, flies_by, BecomesBy, TurnsAny, Lands}

-- what holds of eleven words before any others holds of every list that long
pub eleven : (P : List ℕ → Type 0) → ((a b c d e f g h i j k : ℕ) (r : List ℕ) → P (a ∷ b ∷ c ∷ d ∷ e ∷ f ∷ g ∷ h ∷ i ∷ j ∷ k ∷ r)) → (ws : List ℕ) → 11 ≤ length ws → P ws
eleven P q [] h = absurd (omega arith)
eleven P q (a ∷ []) h = absurd (omega arith)
eleven P q (a ∷ b ∷ []) h = absurd (omega arith)
eleven P q (a ∷ b ∷ c ∷ []) h = absurd (omega arith)
eleven P q (a ∷ b ∷ c ∷ d ∷ []) h = absurd (omega arith)
eleven P q (a ∷ b ∷ c ∷ d ∷ e ∷ []) h = absurd (omega arith)
eleven P q (a ∷ b ∷ c ∷ d ∷ e ∷ f ∷ []) h = absurd (omega arith)
eleven P q (a ∷ b ∷ c ∷ d ∷ e ∷ f ∷ g ∷ []) h = absurd (omega arith)
eleven P q (a ∷ b ∷ c ∷ d ∷ e ∷ f ∷ g ∷ i ∷ []) h = absurd (omega arith)
eleven P q (a ∷ b ∷ c ∷ d ∷ e ∷ f ∷ g ∷ i ∷ j ∷ []) h = absurd (omega arith)
eleven P q (a ∷ b ∷ c ∷ d ∷ e ∷ f ∷ g ∷ i ∷ j ∷ k ∷ []) h = absurd (omega arith)
eleven P q (a ∷ b ∷ c ∷ d ∷ e ∷ f ∷ g ∷ i ∷ j ∷ k ∷ l ∷ r) h = q a b c d e f g i j k l r

-- ---- a value buffer: what single stores do

-- the value in flight
launched : (s : Bool) (k b x : ℕ) (ws : List ℕ) → 11 ≤ length ws → (qs : List Queued)
    → delay_of s (set (set (set (set ws 2 1) 3 k) 4 b) 5 x) qs ≡ flight≔ (delay_of s ws qs) (launch (value_of k b) (of_word s x)) (delay_of s ws qs).later
unfolding delay_of flight_in later_in fires_in flight≔ if◌then◌otherwise◌ part
launched s k b x ws h qs =
    eleven (λ t. delay_of s (set (set (set (set t 2 1) 3 k) 4 b) 5 x) qs ≡ flight≔ (delay_of s t qs) (launch (value_of k b) (of_word s x)) (delay_of s t qs).later)
    (λ a b c d e f g h i j k r. refl) ws h

-- the later input
remembered : (s : Bool) (k b : ℕ) (ws : List ℕ) → 11 ≤ length ws → (qs : List Queued)
    → delay_of s (set (set (set ws 6 1) 7 k) 8 b) qs ≡ flight≔ (delay_of s ws qs) (delay_of s ws qs).flight (some (value_of k b))
unfolding delay_of flight_in later_in fires_in flight≔ if◌then◌otherwise◌ part
remembered s k b ws h qs =
    eleven (λ t. delay_of s (set (set (set t 6 1) 7 k) 8 b) qs ≡ flight≔ (delay_of s t qs) (delay_of s t qs).flight (some (value_of k b)))
    (λ a b c d e f g h i j k r. refl) ws h

-- no value in flight
emptied : (s : Bool) (ws : List ℕ) → 11 ≤ length ws → (qs : List Queued) → delay_of s (set ws 2 0) qs ≡ flight≔ (delay_of s ws qs) none (delay_of s ws qs).later
unfolding delay_of flight_in later_in fires_in flight≔ if◌then◌otherwise◌ part
emptied s ws h qs =
    eleven (λ t. delay_of s (set t 2 0) qs ≡ flight≔ (delay_of s t qs) none (delay_of s t qs).later) (λ a b c d e f g h i j k r. refl) ws h

-- no later input
forgotten : (s : Bool) (ws : List ℕ) → 11 ≤ length ws → (qs : List Queued) → delay_of s (set ws 6 0) qs ≡ flight≔ (delay_of s ws qs) (delay_of s ws qs).flight none
unfolding delay_of flight_in later_in fires_in flight≔ if◌then◌otherwise◌ part
forgotten s ws h qs =
    eleven (λ t. delay_of s (set t 6 0) qs ≡ flight≔ (delay_of s t qs) (delay_of s t qs).flight none) (λ a b c d e f g h i j k r. refl) ws h

-- ---- what is loaded

pub loaded_empty : (s : Bool) (ws : List ℕ) (x : ℕ) → x ≡ get_or ws 2 0 → x ≡ 0 → flight_of None ≡ flight_in s ws
unfolding flight_of flight_in if◌then◌otherwise◌
loaded_empty s ws x e z = let q : get_or ws 2 0 ≡ 0 = sym e ∙ z in rw q

pub loaded_flight :
    (s : Bool) (ws : List ℕ) (x a b y : ℕ) (v : Value) (k : Counting) → x ≡ get_or ws 2 0 → (x ≡ 0 → ⊥) → a ≡ get_or ws 3 0 → b ≡ get_or ws 4 0 → v ≡ value_of a b →
    y ≡ get_or ws 5 0 → counted k ≡ of_word s y → flight_of (Some (record { what = v; left = k })) ≡ flight_in s ws
unfolding flight_of flight_in if◌then◌otherwise◌
loaded_flight s ws x a b y v k e n ea eb ev ey ek =
    rw (ne_eqb (get_or ws 2 0) 0 (λ z. n (e ∙ z))) (ap₂ launch (ev ∙ ap₂ value_of ea eb) (ek ∙ ap (of_word s) ey))

pub loaded_none : (ws : List ℕ) (x : ℕ) → x ≡ get_or ws 6 0 → x ≡ 0 → option_of None ≡ later_in ws
unfolding later_in if◌then◌otherwise◌
loaded_none ws x e z = let q : get_or ws 6 0 ≡ 0 = sym e ∙ z in rw q

pub loaded_later :
    (ws : List ℕ) (x a b : ℕ) (v : Value) → x ≡ get_or ws 6 0 → (x ≡ 0 → ⊥) → a ≡ get_or ws 7 0 → b ≡ get_or ws 8 0 → v ≡ value_of a b → option_of (Some v) ≡ later_in ws
unfolding later_in if◌then◌otherwise◌
loaded_later ws x a b v e n ea eb ev = rw (ne_eqb (get_or ws 6 0) 0 (λ z. n (e ∙ z))) (ap (λ (y : Value). some y) (ev ∙ ap₂ value_of ea eb))

-- ---- the definition's functions, by what is there

input_first : (d : Delay) (v : Value) (k : Countdown) → d.flight ≡ none → buffer_input d v k ≡ flight≔ d (launch v k) d.later
unfolding buffer_input
input_first d v k e = ap (λ (o : math.Option Flight). elim o [ none ↦ flight≔ d (launch v k) d.later | some f ↦ flight≔ d (some f) (some v) ]) e

input_later : (d : Delay) (v u : Value) (k j : Countdown) → d.flight ≡ launch u j → buffer_input d v k ≡ flight≔ d d.flight (some v)
unfolding buffer_input launch
input_later d v u k j e =
    ap (λ (o : math.Option Flight). elim o [ none ↦ flight≔ d (launch v k) d.later | some f ↦ flight≔ d (some f) (some v) ]) e
    ∙ ap (λ (o : math.Option Flight). flight≔ d o (some v)) (sym e)

flight_none : (start : Value → Started) (dt : ℕ) (d : Delay) → d.flight ≡ none → advance_flight start dt d ≡ moved d [] 0
unfolding advance_flight
flight_none start dt d e = ap (λ (o : math.Option Flight). elim o [ none ↦ moved d [] 0 | some f ↦ flown start d f.what (tick_down dt f.left) ]) e

flight_some : (start : Value → Started) (dt : ℕ) (d : Delay) (v : Value) (k : Countdown) → d.flight ≡ launch v k → advance_flight start dt d ≡ flown start d v (tick_down dt k)
unfolding advance_flight launch
flight_some start dt d v k e = ap (λ (o : math.Option Flight). elim o [ none ↦ moved d [] 0 | some f ↦ flown start d f.what (tick_down dt f.left) ]) e

-- ---- one law for each way out

-- a value launched
pub launch_stored :
    (ws w₁ w₂ w₃ w₄ : List ℕ) (v : Value) (k : Counting) (x y z : ℕ) → 11 ≤ length ws → w₁ ≡ set ws 2 1 → x ≡ kind_of v → w₂ ≡ set w₁ 3 x → y ≡ content_of v →
    w₃ ≡ set w₂ 4 y → (z ≡ word_of (counted k)) × (of_word (counts_seconds (counted k)) z ≡ counted k) → w₄ ≡ set w₃ 5 z →
    Becomes (counts_seconds (counted k)) ws w₄ (λ d. flight≔ d (launch v (counted k)) d.later)
launch_stored ws w₁ w₂ w₃ w₄ v k x y z h e₁ ex e₂ ey e₃ ez e₄ qs =
    let s = counts_seconds (counted k) in
    let u : value_of x y ≡ v = ap₂ value_of ex ey ∙ made_again v in
    ap (λ (t : List ℕ). delay_of s t qs) (e₄ ∙ ap (λ (t : List ℕ). set t 5 z) (e₃ ∙ ap (λ (t : List ℕ). set t 4 y) (e₂ ∙ ap (λ (t : List ℕ). set t 3 x) e₁)))
    ∙ launched s x y z ws h qs
    ∙ ap₂ (λ (a : Value) (b : Countdown). flight≔ (delay_of s ws qs) (launch a b) (delay_of s ws qs).later) u ez.1

-- a later input
pub remember_stored :
    (ws w₁ w₂ w₃ : List ℕ) (v : Value) (x y : ℕ) → 11 ≤ length ws → w₁ ≡ set ws 6 1 → x ≡ kind_of v → w₂ ≡ set w₁ 7 x → y ≡ content_of v → w₃ ≡ set w₂ 8 y →
    BecomesAny ws w₃ (λ d. flight≔ d d.flight (some v))
remember_stored ws w₁ w₂ w₃ v x y h e₁ ex e₂ ey e₃ s qs =
    let u : value_of x y ≡ v = ap₂ value_of ex ey ∙ made_again v in
    ap (λ (t : List ℕ). delay_of s t qs) (e₃ ∙ ap (λ (t : List ℕ). set t 8 y) (e₂ ∙ ap (λ (t : List ℕ). set t 7 x) e₁))
    ∙ remembered s x y ws h qs
    ∙ ap (λ (a : Value). flight≔ (delay_of s ws qs) (delay_of s ws qs).flight (some a)) u

-- what is in flight
pub stored_empty :
    (f : Option Flying) (ws vs : List ℕ) → 11 ≤ length ws → f ≡ None → vs ≡ set ws 2 0 → BecomesBy (flight_of f) ws vs (λ d. flight≔ d (flight_of f) d.later)
unfolding flight_of
stored_empty f ws vs h e es s k qs =
    ap (λ (t : List ℕ). delay_of s t qs) es ∙ emptied s ws h qs ∙ ap (λ (x : Option Flying). flight≔ (delay_of s ws qs) (flight_of x) (delay_of s ws qs).later) (sym e)

pub stored_flight :
    (f : Option Flying) (ws vs : List ℕ) (x : Flying) → f ≡ Some x → Becomes (counts_seconds (counted x.left)) ws vs (λ d. flight≔ d (launch x.what (counted x.left)) d.later) →
    BecomesBy (flight_of f) ws vs (λ d. flight≔ d (flight_of f) d.later)
unfolding flight_of flies_by launch
stored_flight f ws vs x e b s q qs =
    let j : counts_seconds (counted x.left) ≡ s = ap (λ (y : Option Flying). flies_by s (flight_of y)) (sym e) ∙ q in
    (rw j at b) qs ∙ ap (λ (x : Option Flying). flight≔ (delay_of s ws qs) (flight_of x) (delay_of s ws qs).later) (sym e)

-- the later input
pub stored_none :
    (o : Option Value) (ws vs : List ℕ) → 11 ≤ length ws → o ≡ None → vs ≡ set ws 6 0 → BecomesAny ws vs (λ d. flight≔ d d.flight (option_of o))
stored_none o ws vs h e es s qs =
    ap (λ (t : List ℕ). delay_of s t qs) es ∙ forgotten s ws h qs ∙ ap (λ (x : Option Value). flight≔ (delay_of s ws qs) (delay_of s ws qs).flight (option_of x)) (sym e)

pub stored_later :
    (o : Option Value) (ws vs : List ℕ) (v : Value) → o ≡ Some v → BecomesAny ws vs (λ d. flight≔ d d.flight (some v)) →
    BecomesAny ws vs (λ d. flight≔ d d.flight (option_of o))
stored_later o ws vs v e b s qs = b s qs ∙ ap (λ (x : Option Value). flight≔ (delay_of s ws qs) (delay_of s ws qs).flight (option_of x)) (sym e)

-- both
pub stored_buffer :
    (f : math.Option Flight) (l : math.Option Value) (ws w₁ w₂ : List ℕ) → BecomesBy f ws w₁ (λ d. flight≔ d f d.later) →
    BecomesAny w₁ w₂ (λ d. flight≔ d d.flight l) → BecomesBy f ws w₂ (λ d. flight≔ d f l)
unfolding flight≔
stored_buffer f l ws w₁ w₂ b₁ b₂ s q qs = b₂ s qs ∙ ap (λ (d : Delay). flight≔ d d.flight l) (b₁ s q qs)

-- ---- what moves a value buffer on keeps the kind of its countdown

in_kind : (s : Bool) (ws : List ℕ) → flies_by s (flight_in s ws) ≡ s
unfolding flies_by flight_in launch if◌then◌otherwise◌
in_kind s ws = go (marked (get_or ws 2 0)) refl
  where
    go : (b : Bool) → marked (get_or ws 2 0) ≡ b → flies_by s (flight_in s ws) ≡ s
    go true e = rw e (kind_word s (get_or ws 5 0))
    go false e = rw e

input_kind : (s : Bool) (d : Delay) (v : Value) (k : Countdown) → counts_seconds k ≡ s → flies_by s d.flight ≡ s → flies_by s (buffer_input d v k).flight ≡ s
unfolding flies_by launch flight≔
input_kind s d v k j q = go d.flight refl
  where
    go : (o : math.Option Flight) → d.flight ≡ o → flies_by s (buffer_input d v k).flight ≡ s
    go none e = ap (λ (x : Delay). flies_by s x.flight) (input_first d v k e) ∙ j
    go (some f) e = ap (λ (x : Delay). flies_by s x.flight) (input_later d v f.what k f.left e) ∙ q

module _ (s : Bool) (start : Value → Started) (w : (v : Value) → counts_seconds (start v).left ≡ s) where
  landed_kind : (d : Delay) (v : Value) → flies_by s (landed start d v).state.flight ≡ s
  unfolding flies_by landed launch moved flight≔
  landed_kind d v = go d.later
    where
      go :
          (o : math.Option Value) →
          flies_by s (elim o as (λ _. Moved) [
            | none ↦ moved (flight≔ d none none) (v ∷ []) 0
            | some u ↦ record { state = flight≔ d (launch u (start u).left) none; row = v ∷ []; fires = 0; changed = (start u).changed }
          ]).state.flight ≡ s
      go none = refl
      go (some u) = w u

  flown_kind : (d : Delay) (v : Value) (k : Countdown) → counts_seconds k ≡ s → flies_by s (flown start d v k).state.flight ≡ s
  unfolding flies_by flown launch moved flight≔ if◌then◌otherwise◌
  flown_kind d v k j = go (due k) refl
    where
      go : (b : Bool) → due k ≡ b → flies_by s (flown start d v k).state.flight ≡ s
      go true e = rw e (landed_kind d v)
      go false e = rw e j

  advance_kind : (dt : ℕ) (d : Delay) → flies_by s d.flight ≡ s → flies_by s (advance_flight start dt d).state.flight ≡ s
  unfolding flies_by launch moved
  advance_kind dt d q = go d.flight refl
    where
      go : (o : math.Option Flight) → d.flight ≡ o → flies_by s (advance_flight start dt d).state.flight ≡ s
      go none e = ap (λ (m : Moved). flies_by s m.state.flight) (flight_none start dt d e) ∙ q
      go (some f) e =
          ap (λ (m : Moved). flies_by s m.state.flight) (flight_some start dt d f.what f.left e)
          ∙ flown_kind d f.what (tick_down dt f.left) (kind_tick dt f.left ∙ ap (flies_by s) (sym e) ∙ q)

-- ---- a value buffer loaded, moved on and stored

-- a new input
pub input_moves :
    (s : Bool) (ws vs : List ℕ) (b r : Buffer) (v : Value) (k : Countdown) → counts_seconds k ≡ s →
    (flight_of b.flight ≡ flight_in s ws) × (option_of b.later ≡ later_in ws) → buffer_moved r ≡ moved (buffer_input (buffer b) v k) [] 0 →
    BecomesBy (flight_of r.flight) ws vs (λ d. flight≔ d (flight_of r.flight) (option_of r.later)) → Becomes s ws vs (λ d. buffer_input d v k)
unfolding delay_of buffer_moved buffer moved flight≔
input_moves s ws vs b r v k j l h st qs =
    let kind : flies_by s (flight_of r.flight) ≡ s = ap (λ (m : Moved). flies_by s m.state.flight) h ∙ input_kind s (buffer b) v k j (ap (flies_by s) l.0 ∙ in_kind s ws) in
    st s kind qs ∙ input_stored (delay_of s ws qs) b r l.0 l.1 v k h

-- a tick
pub fly_empty :
    (s : Bool) (ws : List ℕ) (x dt : ℕ) (start : Value → Started) → x ≡ get_or ws 2 0 → x ≡ 0 →
    Lands s ws ws (advance_flight start dt) (record { what = None; changed = false })
unfolding delay_of flight_of row_of moved
fly_empty s ws x dt start e z qs = flight_none start dt (delay_of s ws qs) (sym (loaded_empty s ws x e z))

pub fly_moves :
    (c : Circuit) (g : ℕ) (s : Bool) (ws vs : List ℕ) (dt : ℕ) (b r : Buffer) (wait zero_wait : Value) → s ≡ leb 12 (kind_of_gate c g) →
    (flight_of b.flight ≡ flight_in s ws) × (option_of b.later ≡ later_in ws) → wait ≡ setting c g 1 → zero_wait ≡ setting c g 2 →
    buffer_moved r ≡ advance_flight (starts s wait zero_wait) dt (buffer b) →
    BecomesBy (flight_of r.flight) ws vs (λ d. flight≔ d (flight_of r.flight) (option_of r.later)) →
    Lands s ws vs (advance_flight (λ v. countdown c g (truthy v)) dt) (record { what = r.landed; changed = r.changed })
unfolding delay_of buffer_moved buffer moved flight≔ starts
fly_moves c g s ws vs dt b r wait zero_wait es l ew ez h st qs =
    let start : (v : Value) → starts s wait zero_wait v ≡ countdown c g (truthy v) = λ v. rw (es, ew, ez) (sym (of_gate c g (truthy v))) in
    let of_kind : (v : Value) → counts_seconds (countdown c g (truthy v)).left ≡ s = λ v. ap (λ (k : Started). counts_seconds k.left) (sym (start v)) ∙ kind_by s (truthy v) wait zero_wait in
    let m : buffer_moved r ≡ advance_flight (λ v. countdown c g (truthy v)) dt (buffer b) = h ∙ ap (λ (f : Value → Started). advance_flight f dt (buffer b)) (λ j v. start v j) in
    let kind : flies_by s (flight_of r.flight) ≡ s = ap (λ (x : Moved). flies_by s x.state.flight) m ∙ advance_kind s (λ v. countdown c g (truthy v)) of_kind dt (buffer b) (ap (flies_by s) l.0 ∙ in_kind s ws) in
    sym (buffer_stored (delay_of s ws qs) b r l.0 l.1 (λ v. countdown c g (truthy v)) dt m)
    ∙ ap (λ (d : Delay). record { state = d; row = row_of r.landed; fires = 0; changed = r.changed }) (sym (st s kind qs))

-- a slot has eleven words and more
pub slot_long : (s : List ℕ) → length s ≡ 344 → 11 ≤ length (words s)
slot_long s e = words_long 11 s (omega arith)

-- ---- a Clock and a Stopwatch

-- the seconds so far, and whether it runs
timed : (s : Bool) (x y : ℕ) (ws : List ℕ) → 11 ≤ length ws → (qs : List Queued) → delay_of s (set (set ws 0 x) 1 y) qs ≡ elapsed≔ (delay_of s ws qs) x (marked y)
unfolding delay_of flight_in later_in fires_in elapsed≔ if◌then◌otherwise◌ part
timed s x y ws h qs =
    eleven (λ t. delay_of s (set (set t 0 x) 1 y) qs ≡ elapsed≔ (delay_of s t qs) x (marked y)) (λ a b c d e f g h i j k r. refl) ws h

started : (s : Bool) (y : ℕ) (ws : List ℕ) → 11 ≤ length ws → (qs : List Queued) → delay_of s (set ws 1 y) qs ≡ elapsed≔ (delay_of s ws qs) (delay_of s ws qs).elapsed (marked y)
unfolding delay_of flight_in later_in fires_in elapsed≔ if◌then◌otherwise◌ part
started s y ws h qs =
    eleven (λ t. delay_of s (set t 1 y) qs ≡ elapsed≔ (delay_of s t qs) (delay_of s t qs).elapsed (marked y)) (λ a b c d e f g h i j k r. refl) ws h

-- a mark as a word
pub bit_is : (b : Bool) (x : ℕ) → x ≡ bool_byte b → x ≡ bit b
unfolding bit if◌then◌otherwise◌
bit_is true x e = e
bit_is false x e = e

marked_bit : (b : Bool) → marked (bit b) ≡ b
unfolding bit if◌then◌otherwise◌
marked_bit true = refl
marked_bit false = refl

-- a Clock that is disabled
pub clock_off : (ws : List ℕ) (dt interval : ℕ) (enabled : Bool) → not enabled ≡ true → TurnsAny ws ws (advance_elapsed dt interval enabled) [] (bit false)
unfolding advance_elapsed if◌then◌otherwise◌ bit
clock_off ws dt interval enabled h s qs = rw (not-true enabled h)

-- and one that moves on
pub clock_on :
    (ws w₁ w₂ : List ℕ) (dt interval x : ℕ) (enabled : Bool) (r : Clock) → 11 ≤ length ws → not enabled ≡ false → x ≡ get_or ws 0 0 →
    clock_moved r ≡ advance_elapsed dt interval enabled (clock (record { elapsed = x; fired = false })) → w₁ ≡ set ws 0 r.elapsed → w₂ ≡ set w₁ 1 0 →
    TurnsAny ws w₂ (advance_elapsed dt interval enabled) [] (bit r.fired)
unfolding delay_of if◌then◌otherwise◌
clock_on ws w₁ w₂ dt interval x enabled r h t ex er e₁ e₂ s qs =
    let on : enabled ≡ true = not-false enabled t in
    sym (clock_stored (delay_of s ws qs) (record { elapsed = x; fired = false }) r ex dt interval enabled er)
    ∙ ap (λ (b : Bool). moved (elapsed≔ (delay_of s ws qs) r.elapsed (if b then false otherwise (delay_of s ws qs).running)) [] (bit r.fired)) on
    ∙ ap (λ (d : Delay). moved d [] (bit r.fired)) (sym (ap (λ (t : List ℕ). delay_of s t qs) (e₂ ∙ ap (λ (t : List ℕ). set t 1 0) e₁) ∙ timed s r.elapsed 0 ws h qs))

-- a Stopwatch that stands
pub stopwatch_stands :
    (ws : List ℕ) (dt limit x y : ℕ) → x ≡ get_or ws 1 0 → not (not (eqb x 0)) ≡ true →
    TurnsAny ws ws (advance_time dt limit) (stopwatch_moved (record { time = y; running = not (eqb x 0); shows = false; expired = false })).row (stopwatch_moved (record { time = y; running = not (eqb x 0); shows = false; expired = false })).fires
unfolding advance_time stopwatch_moved moved delay_of bit if◌then◌otherwise◌
stopwatch_stands ws dt limit x y ex t s qs =
    let z : not (eqb (get_or ws 1 0) 0) ≡ false = ap (λ (n : ℕ). not (eqb n 0)) (sym ex) ∙ not-true (not (eqb x 0)) t in
    rw z

-- and one that runs
pub stopwatch_runs :
    (ws w₁ w₂ : List ℕ) (dt limit x y z : ℕ) (r : Stopwatch) → 11 ≤ length ws → y ≡ get_or ws 0 0 → x ≡ get_or ws 1 0 →
    stopwatch_moved r ≡ advance_time dt limit (stopwatch (record { time = y; running = not (eqb x 0); shows = false; expired = false })) →
    w₁ ≡ set ws 0 r.time → z ≡ bit r.running → w₂ ≡ set w₁ 1 z → TurnsAny ws w₂ (advance_time dt limit) (stopwatch_moved r).row (stopwatch_moved r).fires
unfolding stopwatch_moved moved delay_of
stopwatch_runs ws w₁ w₂ dt limit x y z r h ey ex er e₁ ez e₂ s qs =
    let m : marked z ≡ r.running = ap marked ez ∙ marked_bit r.running in
    sym (stopwatch_stored (delay_of s ws qs) (record { time = y; running = not (eqb x 0); shows = false; expired = false }) r ey (ap marked ex) dt limit er)
    ∙ ap (λ (d : Delay). moved d (if r.shows then Float r.time ∷ [] otherwise []) (bit r.expired))
    (sym (ap (λ (t : List ℕ). delay_of s t qs) (e₂ ∙ ap (λ (t : List ℕ). set t 1 z) e₁) ∙ timed s r.time z ws h qs ∙ ap (elapsed≔ (delay_of s ws qs) r.time) m))

-- its pins
pub press_restart : (ws w₁ w₂ : List ℕ) (p : ℕ) → 11 ≤ length ws → p ≡ 0 → w₁ ≡ set ws 0 0 → w₂ ≡ set w₁ 1 1 → BecomesAny ws w₂ (pressed p)
unfolding pressed if◌then◌otherwise◌
press_restart ws w₁ w₂ p h z e₁ e₂ s qs = rw z (ap (λ (t : List ℕ). delay_of s t qs) (e₂ ∙ ap (λ (t : List ℕ). set t 1 1) e₁) ∙ timed s 0 1 ws h qs)

pub press_other : (ws w₁ : List ℕ) (p x : ℕ) → 11 ≤ length ws → (p ≡ 0 → ⊥) → x ≡ bit (eqb p 2) → w₁ ≡ set ws 1 x → BecomesAny ws w₁ (pressed p)
unfolding pressed if◌then◌otherwise◌
press_other ws w₁ p x h n ex e₁ s qs =
    rw (ne_eqb p 0 n)
    (ap (λ (t : List ℕ). delay_of s t qs) e₁ ∙ started s x ws h qs ∙ ap (elapsed≔ (delay_of s ws qs) (delay_of s ws qs).elapsed) (ap marked ex ∙ marked_bit (eqb p 2)))
