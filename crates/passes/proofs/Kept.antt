-- Lists that raising to a place leaves as they are.
use Prim.Native.Nat.{ℕ}
use mathlib.Core.Path.{◌≡◌, refl, ◌∙◌}
use mathlib.Core.Bool.{Bool, true, false, cond}
use mathlib.Core.List.{List, [], ◌∷◌}
use lib.Dec.{ltb, eqb}
use lib.ListN.{length}
use Rattle.schedule.specs.Schedule.{Raise, Filed, full, filed, most_waiting, most_delivered, Place, to_late, to_delivered, to_pending}
use Rattle.lists.specs.Lists.{NoRoom}
use Rattle.model.specs.Base.{if◌then◌otherwise◌}
use Rattle.model.specs.Circuit.{Circuit}
use Rattle.model.specs.State.{Act, State}
use Rattle.model.specs.Chain.{Chained}
use Rattle.model.specs.Loops.{run_chain}
use Rattle.model.specs.Unit.{begin, enter}
use Rattle.units.specs.declared.Place.TheVariants.{Late}
use Rattle.units.specs.View.{Lists}
use Rattle.units.specs.Raising.{activate, place_for, deliver, Went, raise_into}
use Rattle.settling.specs.Settling.{filed_into}
use Rattle.opening.specs.Opening.{put_to}
use Rattle.unit.specs.Unit.{with_left, finished, finished_chain, ran}

-- what is filed has a property
abbrev pub IfFiled : (Lists → Type 0) → Filed Lists → Type 0
IfFiled P full = Unit {0}
IfFiled P (filed k) = P k

if_room : (P : Lists → Type 0) (t : Bool) (q : Lists) → P q → IfFiled P (cond t (filed q) full)
if_room P true q h = h
if_room P false q h = tt

if_either : (P : Lists → Type 0) (t : Bool) (x y : Filed Lists) → IfFiled P x → IfFiled P y → IfFiled P (cond t x y)
if_either P true x y h k = h
if_either P false x y h k = k

-- a part of the lists that filing does not change
module _ {A P : Type 0} (part : Lists → A) (file : P → Act → Lists → Filed Lists) (same : (p : P) (a : Act) (l : Lists) → IfFiled (λ k. part k ≡ part l) (file p a l)) where
  pub into_keeps : (rs : List (Raise State Act P)) (l : Lists) (s : State) → part (raise_into file rs l s).lists ≡ part l
  unfolding raise_into
  into_keeps [] l s = refl
  into_keeps (r ∷ rs) l s = go (file r.place r.act l) (same r.place r.act l) (λ k. into_keeps rs k s)
    where
      go :
          (f : Filed Lists) → IfFiled (λ k. part k ≡ part l) f → ((k : Lists) → part (raise_into file rs k s).lists ≡ part k) →
          let z : Went = elim f [ full ↦ record { state = r.at; lists = l; answer = NoRoom } | filed k ↦ raise_into file rs k s ] in
          part z.lists ≡ part l
      go full e rest = refl
      go (filed k) e rest = rest k ∙ e

-- ---- by place

-- what the main pass will take and what is carried
pub record Later : Type 0 where
  pub pending : List Act
  pub carried : List Act

abbrev pub later : Lists → Later
later l = record { pending = l.pending; carried = l.carried }

module _ (c : Circuit) where
  late_same : (a : Act) (l : Lists) → IfFiled (λ k. later k ≡ later l) (activate c Late a l)
  unfolding activate
  late_same a l = if_room (λ k. later k ≡ later l) (ltb (length l.late) most_waiting) _ refl

  opens_same : (p : Place) (a : Act) (l : Lists) → IfFiled (λ k. k.carried ≡ l.carried) (put_to c p a l)
  unfolding put_to activate deliver
  opens_same to_late a l = if_room (λ k. k.carried ≡ l.carried) (ltb (length l.late) most_waiting) _ refl
  opens_same to_delivered a l = if_room (λ k. k.carried ≡ l.carried) (ltb (length l.delivered) most_delivered) _ refl
  opens_same to_pending a l = if_room (λ k. k.carried ≡ l.carried) (ltb (length l.pending) most_waiting) _ refl

  -- a unit of the late pass leaves what waits for the main pass
  pub ran_later : (left : ℕ) (a : Act) (s : State) (l : Lists) → later (ran c Late left a s l).lists ≡ later l
  unfolding ran finished_chain finished with_left filed_into place_for if◌then◌otherwise◌
  ran_later left a s l = go (run_chain c left (begin c a) (enter c s a))
    where
      go : (r : Chained) → later (finished_chain c Late r l).lists ≡ later l
      go r = by (eqb r.stop 0) refl
        where
          by : (b : Bool) → eqb r.stop 0 ≡ b → later (finished_chain c Late r l).lists ≡ later l
          by true e = rw e (into_keeps later (λ p. activate c (place_for p Late)) (λ _. late_same) _ l _)
          by false e = rw e refl

  -- the opening carries nothing
  pub opening_carries : (rs : List (Raise State Act Place)) (l : Lists) (s : State) → (raise_into (put_to c) rs l s).lists.carried ≡ l.carried
  opening_carries = into_keeps (λ l. l.carried) (put_to c) opens_same
