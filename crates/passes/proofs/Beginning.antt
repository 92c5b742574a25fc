-- What is taken next, and how a unit begins: one law for each way out of a function.
use Prim.Native.Nat.{ℕ, ◌-◌, ◌<◌}
use mathlib.Core.Path.{◌≡◌, refl, sym, ap, ◌∙◌, subst}
use mathlib.Core.Bool.{Bool, cond}
use mathlib.Core.List.{List, [], ◌∷◌}
use mathlib.Core.Option.{none, some}
use native.Mathlib.Omega.{arith}
use borrow.Author.Tests.{lt-ltb}
use lib.Dec.{ltb}
use lib.ListN.{length, drop}
use Rattle.schedule.specs.Schedule.{list_full}
use Rattle.std.specs.Prelude.{Option, None, Some}
use Rattle.model.specs.Base.{snoc}
use Rattle.model.specs.Circuit.{Circuit}
use Rattle.model.specs.State.{Act as UnitAct, Send}
use Rattle.model.specs.Record.{Listed}
use Rattle.model.specs.Closing.{as_listed}
use Rattle.wires.specs.View.{Values}
use Rattle.states.specs.View.{Delays}
use Rattle.units.specs.declared.Place.{Place}
use Rattle.units.specs.View.{gate_of, form_of, entry_of, act_of, event_of, listed_of, Lists, Units}
use Rattle.units.specs.Raising.{late≔, delivered≔, with_lists}
use Rattle.units.specs.Calls.{with_begun, first_of, act_taken}
use Rattle.areas.specs.Areas.{Contents, together}
use Rattle.chain.specs.declared.Ran.{Ran}
use Rattle.unit.specs.declared.Act.{Act}
use Rattle.unit.specs.declared.Act.TheVariants.{Waiting, Event}
use Rattle.unit.specs.Unit.{act_in, ran, RanAs}
use Rattle.passes.specs.Taking.{next_of, rest_of, act_next, Takes, over, one_begun, Works}

-- ---- the entry of a unit begun

pub listed_waiting : (c : Circuit) (es : List Send) (a : Act) (x : ℕ) → a ≡ Waiting x → listed_of x ≡ as_listed (act_in c es a)
unfolding listed_of act_in act_of
listed_waiting c es a x e = rw e refl

event_gate : (g x : ℕ) → (g ≡ gate_of x) × (g < 65536) → gate_of (entry_of g 1 0) ≡ gate_of x
unfolding gate_of entry_of
event_gate g x e = let p = e.0 in let h = e.1 in omega arith

event_form : (g : ℕ) → form_of (entry_of g 1 0) ≡ 1
unfolding form_of entry_of
event_form g = omega arith

pub listed_event :
    (c : Circuit) (es : List Send) (a : Act) (x g r : ℕ) → a ≡ Event x → (g ≡ gate_of x) × (g < 65536) → r ≡ entry_of g 1 0 →
    listed_of r ≡ as_listed (act_in c es a)
unfolding listed_of act_in event_of
listed_event c es a x g r e eg er = rw (e, er) (λ j. record { gate = event_gate g x eg j; form = event_form g j })

-- ---- a unit begins

one_more : (U U₁ : Units) (b : Listed) → length U.begun < 1024 → U₁ ≡ with_begun U (cond (ltb (length U.begun) 1024) (snoc U.begun b) U.begun) → U₁ ≡ with_begun U (snoc U.begun b)
one_more U U₁ b h e = e ∙ ap (λ (t : Bool). with_begun U (cond t (snoc U.begun b) U.begun)) (lt-ltb (length U.begun) 1024 h)

pub begins :
    (c : Circuit) (vs : Values) (U U₁ : Units) (D : Delays) (b : Contents) (r : Ran) (x left : ℕ) (a : Act) (to : Place) → length U.begun < 1024 →
    listed_of x ≡ as_listed (act_in c U.events a) →
    U₁ ≡ with_begun U (cond (ltb (length U.begun) 1024) (snoc U.begun (listed_of x)) U.begun) →
    RanAs (together vs U₁ D) b r (ran c to left (act_in c U₁.events a) (together vs U₁ D).state U₁.lists) →
    Works b r (one_begun (together vs U D).kept (act_in c U.events a)) (ran c to left (act_in c U.events a) (together vs U D).state U.lists)
begins c vs U U₁ D b r x left a to h e f q =
    let k : U₁ ≡ with_begun U (snoc U.begun (as_listed (act_in c U.events a))) = one_more U U₁ (listed_of x) h f ∙ ap (λ (y : Listed). with_begun U (snoc U.begun y)) e in
    let p : RanAs (together vs (with_begun U (snoc U.begun (as_listed (act_in c U.events a)))) D) b r (ran c to left (act_in c U.events a) (together vs U D).state U.lists) =
    subst (λ (u : Units). RanAs (together vs u D) b r (ran c to left (act_in c u.events a) (together vs u D).state u.lists)) k q in
    record {
      state = ap (λ (x : Contents). x.state) p.areas;
      lists = ap (λ (x : Contents). x.lists) p.areas;
      kept = ap (λ (x : Contents). x.kept) p.areas;
      left = p.left;
      stop = p.stop;
    }

-- ---- the next one of the late pass

next_taken : (l d : List UnitAct) (a : UnitAct) → some a ≡ first_of l → some a ≡ next_of l d
unfolding first_of next_of
next_taken [] d a e = cc
next_taken (b ∷ l) d a e = e

rest_taken : (l : Lists) (k : List UnitAct) (a : UnitAct) → some a ≡ first_of k → late≔ l (drop 1 k) ≡ rest_of l k
unfolding first_of rest_of
rest_taken l [] a e = cc
rest_taken l (b ∷ k) a e = refl

next_none : (l d : List UnitAct) → none ≡ first_of l → first_of d ≡ next_of l d
unfolding first_of next_of
next_none [] [] e = refl
next_none [] (a ∷ d) e = refl
next_none (b ∷ l) d e = cc

rest_none : (l : Lists) (k : List UnitAct) → none ≡ first_of k → delivered≔ l (drop 1 l.delivered) ≡ rest_of l k
unfolding first_of rest_of
rest_none l [] e = refl
rest_none l (b ∷ k) e = cc

-- nothing is taken off an empty list
pub drop_none : (k : List UnitAct) → none ≡ first_of k → drop 1 k ≡ k
unfolding first_of
drop_none [] e = refl
drop_none (b ∷ k) e = cc

module _ (c : Circuit) (U U₁ : Units) (t : Option ℕ) (e : (act_taken (act_of c) t ≡ first_of U.lists.late) × (U₁ ≡ with_lists U (late≔ U.lists (drop 1 U.lists.late)))) where
  -- one was late
  pub takes_late : (x : ℕ) → t ≡ Some x → Takes c U U₁ (Some (Waiting x))
  unfolding act_taken act_next act_in
  takes_late x h =
      let p : some (act_of c x) ≡ first_of U.lists.late = ap (act_taken (act_of c)) (sym h) ∙ e.0 in
      record {
        next = next_taken U.lists.late U.lists.delivered (act_of c x) p;
        rest = e.1 ∙ ap (with_lists U) (rest_taken U.lists U.lists.late (act_of c x) p);
      }

  module _ (U₂ : Units) (t₂ : Option ℕ) (e₂ : (act_taken (event_of U₁.events) t₂ ≡ first_of U₁.lists.delivered) × (U₂ ≡ with_lists U₁ (delivered≔ U₁.lists (drop 1 U₁.lists.delivered)))) where
    none_late : t ≡ None → none ≡ first_of U.lists.late
    unfolding act_taken
    none_late h = ap (act_taken (act_of c)) (sym h) ∙ e.0

    still : t ≡ None → (act_taken (event_of U.events) t₂ ≡ first_of U.lists.delivered) × (U₂ ≡ with_lists U (delivered≔ U.lists (drop 1 U.lists.delivered)))
    still h =
        let same : U₁ ≡ U = e.1 ∙ ap (λ (k : List UnitAct). with_lists U (late≔ U.lists k)) (drop_none U.lists.late (none_late h)) in
        subst (λ (u : Units). (act_taken (event_of u.events) t₂ ≡ first_of u.lists.delivered) × (U₂ ≡ with_lists u (delivered≔ u.lists (drop 1 u.lists.delivered)))) same e₂

    -- none was late, and an event was delivered
    pub takes_event : (x : ℕ) → t ≡ None → t₂ ≡ Some x → Takes c U U₂ (Some (Event x))
    unfolding act_taken act_next act_in
    takes_event x h h₂ =
        let p : some (event_of U.events x) ≡ first_of U.lists.delivered = ap (act_taken (event_of U.events)) (sym h₂) ∙ (still h).0 in
        record {
          next = p ∙ next_none U.lists.late U.lists.delivered (none_late h);
          rest = (still h).1 ∙ ap (with_lists U) (rest_none U.lists U.lists.late (none_late h));
        }

    -- nothing waits
    pub takes_nothing : t ≡ None → t₂ ≡ None → Takes c U U₂ None
    unfolding act_taken act_next act_in
    takes_nothing h h₂ =
        let p : none ≡ first_of U.lists.delivered = ap (act_taken (event_of U.events)) (sym h₂) ∙ (still h).0 in
        record {
          next = p ∙ next_none U.lists.late U.lists.delivered (none_late h);
          rest = (still h).1 ∙ ap (with_lists U) (rest_none U.lists U.lists.late (none_late h));
        }

-- ---- whether one waits

pub over_late : (l d : List UnitAct) (n : ℕ) → n ≡ length l → (n ≡ 0 → ⊥) → list_full ≡ over (next_of l d)
unfolding over next_of
over_late [] d n e h = absurd (h e)
over_late (a ∷ l) d n e h = refl

pub over_delivered : (l d : List UnitAct) (n m : ℕ) → n ≡ length l → n ≡ 0 → m ≡ length d → (m ≡ 0 → ⊥) → list_full ≡ over (next_of l d)
unfolding over next_of
over_delivered [] [] n m e z f h = absurd (h f)
over_delivered [] (a ∷ d) n m e z f h = refl
over_delivered (b ∷ l) d n m e z f h = refl

pub over_none : (l d : List UnitAct) (n m : ℕ) → n ≡ length l → n ≡ 0 → m ≡ length d → m ≡ 0 → 0 ≡ over (next_of l d)
unfolding over next_of
over_none [] [] n m e z f h = refl
over_none [] (a ∷ d) n m e z f h = absurd (omega arith)
over_none (b ∷ l) d n m e z f h = absurd (omega arith)

pub over_pending : (l : List UnitAct) (n : ℕ) → n ≡ length l → (n ≡ 0 → ⊥) → list_full ≡ over (first_of l)
unfolding over first_of
over_pending [] n e h = absurd (h e)
over_pending (a ∷ l) n e h = refl

pub over_idle : (l : List UnitAct) (n : ℕ) → n ≡ length l → n ≡ 0 → 0 ≡ over (first_of l)
unfolding over first_of
over_idle [] n e h = refl
over_idle (a ∷ l) n e h = absurd (omega arith)
