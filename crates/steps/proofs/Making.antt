-- What a step makes of the areas, from what it makes of one of them.
use Prim.Native.Nat.{ℕ, zero, suc}
use mathlib.Core.Path.{◌≡◌, refl, sym, ap, subst}
use mathlib.Core.Bool.{Bool, true, false}
use mathlib.Core.List.{List, [], ◌∷◌}
use mathlib.Core.Option.{none}
use lib.ListN.{get_or, set}
use Rattle.model.specs.Base.{if◌then◌otherwise◌}
use Rattle.model.specs.State.{Wires, Delay, Send, wires≔, changed≔}
use Rattle.model.specs.Exec.{Stepped, fires_next, ends}
use Rattle.wires.specs.View.{Values, with_wires}
use Rattle.states.specs.View.{Delays, with_changed}
use Rattle.units.specs.View.{Units}
use Rattle.units.specs.Calls.{with_outbox}
use Rattle.areas.specs.Areas.{Contents, together}
use Rattle.std.specs.Prelude.{Some, None, Ok, Err}
use Rattle.steps.specs.Steps.{stepped, Makes, Step}

-- what a step answers: the output to fire next, that the chain ends there, that a list was full
abbrev pub Fires : ℕ → Step
Fires o = Ok (Some o)

abbrev pub Ends : Step
Ends = Ok None

abbrev pub Stops : Step
Stops = Err (record {})

-- a choice whose test is known
module _ {A : Type 0} (b : Bool) (x y : A) where
  pub if_true : b ≡ true → (if b then x otherwise y) ≡ x
  unfolding if◌then◌otherwise◌
  if_true e = rw e

  pub if_false : b ≡ false → (if b then x otherwise y) ≡ y
  unfolding if◌then◌otherwise◌
  if_false e = rw e

-- the same step, by another name
pub makes_as : (a b : Contents) (r : Step) (d e : Stepped) → e ≡ d → Makes a b r d → Makes a b r e
makes_as a b r d e p m = subst (λ (x : Stepped). Makes a b r x) (sym p) m

-- the wires became w, and the chain goes on from output o
pub makes_fires : (v v₁ : Values) (w : Wires) (o o₁ : ℕ) → v₁ ≡ with_wires v w → o ≡ o₁ → (u : Units) (d : Delays) →
    Makes (together v u d) (together v₁ u d) (Fires o) (fires_next (wires≔ (together v u d).state w) o₁)
unfolding wires≔ fires_next stepped
makes_fires v v₁ w o o₁ e f u d =
    record { state = ap (λ (x : Values). together x u d) e; answer = ap (fires_next (wires≔ (together v u d).state w)) f }

-- nothing changed, and the chain goes on from output o
pub makes_passes : (a : Contents) (o o₁ : ℕ) → o ≡ o₁ → Makes a a (Fires o) (fires_next a.state o₁)
unfolding fires_next stepped
makes_passes a o o₁ f = record { state = refl; answer = ap (fires_next a.state) f }

-- nothing changed, and the chain ends
pub makes_ends : (a : Contents) → Makes a a Ends (ends a.state)
unfolding ends stepped
makes_ends a = record { state = refl; answer = refl }

-- the wires became w, the small states ds and the count n, and the chain ends
pub makes_delays : (v v₁ : Values) (d d₁ : Delays) (w : Wires) (ds : List Delay) (n : ℕ) → v₁ ≡ with_wires v w → d₁ ≡ record { delays = ds; changed = n; parts = d.parts; rest = d.rest } →
    (u : Units) → Makes (together v u d) (together v₁ u d₁) Ends (ends (record { wires = w; delays = ds; outbox = u.outbox; changed = n }))
unfolding ends stepped
makes_delays v v₁ d d₁ w ds n e f u = record { state = λ j. together (e j) u (f j); answer = refl }

-- the count became n, and a list was full
pub makes_full : (v : Values) (u : Units) (d d₁ : Delays) (n : ℕ) → d₁ ≡ with_changed d n →
    Makes (together v u d) (together v u d₁) Stops (record { state = changed≔ (together v u d).state n; next = none; full = true })
unfolding stepped changed≔
makes_full v u d d₁ n e = record { state = ap (λ (x : Delays). together v u x) e; answer = refl }

-- the wires became w and the outbox x, and the chain goes on from output o
pub makes_sent : (v v₁ : Values) (u u₁ : Units) (w : Wires) (x : List Send) (o o₁ : ℕ) → v₁ ≡ with_wires v w → u₁ ≡ with_outbox u x → o ≡ o₁ → (d : Delays) →
    Makes (together v u d) (together v₁ u₁ d) (Fires o) (fires_next (record { wires = w; delays = d.delays; outbox = x; changed = d.changed }) o₁)
unfolding fires_next stepped
makes_sent v v₁ u u₁ w x o o₁ e f h d =
    record { state = λ j. together (e j) (f j) d; answer = ap (fires_next (record { wires = w; delays = d.delays; outbox = x; changed = d.changed })) h }

-- what stands at a place is put there again
pub set_again : {A : Type 0} (l : List A) (i : ℕ) (a : A) → set l i (get_or l i a) ≡ l
set_again [] i a = refl
set_again (x ∷ l) zero a = refl
set_again (x ∷ l) (suc i) a = ap (λ (r : List _). x ∷ r) (set_again l i a)
