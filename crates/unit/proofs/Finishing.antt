-- The end of a unit, and the whole of it: one law for each way out of a function.
use Prim.Native.Nat.{ℕ}
use mathlib.Core.Path.{◌≡◌, refl, ap, ap₂, ◌∙◌, subst}
use mathlib.Core.Bool.{Bool, true, false}
use mathlib.Core.List.{List}
use borrow.Author.Tests.{eq-eqb, ne_eqb}
use lib.Dec.{eqb}
use Rattle.lists.specs.Lists.{Filed, NoRoom, Done}
use Rattle.model.specs.Base.{if◌then◌otherwise◌}
use Rattle.model.specs.Circuit.{Circuit, output}
use Rattle.model.specs.State.{Act, State, wires≔}
use Rattle.model.specs.Wires.{set_outs}
use Rattle.model.specs.Chain.{no_calls, Chained}
use Rattle.model.specs.Loops.{run_chain}
use Rattle.model.specs.Settle.{publish_writes, settle}
use Rattle.model.specs.Unit.{begin, enter}
use Rattle.wires.specs.View.{Values, with_wires, values}
use Rattle.units.specs.declared.Place.{Place}
use Rattle.units.specs.View.{Lists, Units, units}
use Rattle.units.specs.Calls as on_units
use Rattle.units.specs.Raising.{Went}
use Rattle.states.specs.View.{delays}
use Rattle.areas.specs.Areas.{Kept, Contents, together, areas, with_state, with_calls, with_went}
use Rattle.settling.specs.Settling.{filed_into}
use Rattle.chain.specs.declared.Ran.{Ran}
use Rattle.chain.specs.Chain.{Runs}
use Rattle.unit.specs.Unit.{Result, stop_of, with_left, finished, finished_chain, ran, RanAs, Finishes}

-- ---- a full list

pub stop_full : (r : Filed) → r ≡ NoRoom → 12 ≡ stop_of r
unfolding stop_of
stop_full r e = rw e

pub stop_none : (r : Filed) → r ≡ Done → 0 ≡ stop_of r
unfolding stop_of
stop_none r e = rw e

-- ---- the end

-- what is raised, filed
abbrev filed_of : Circuit → Place → Contents → Went
filed_of c to a = filed_into c to (settle c a.state) a.lists

module _ (c : Circuit) (to : Place) (left stop : ℕ) where
  pub finish_stopped : (a : Contents) → (stop ≡ 0 → ⊥) → Finishes a a stop (finished c to a.state left stop a.lists)
  unfolding finished if◌then◌otherwise◌
  finish_stopped a h = rw (ne_eqb stop 0 h) record { areas = refl; stop = refl }

  pub finish_settled :
      (vs us ds vs₁ vs₂ us₂ ds₂ : List ℕ) (r : Filed) (st : ℕ) → stop ≡ 0 → values c vs₁ ≡ with_wires (values c vs) (publish_writes c (values c vs).wires) →
      (areas c vs₂ us₂ ds₂ ≡ with_went (areas c vs₁ us ds) (filed_into c to (settle c (areas c vs₁ us ds).state) (areas c vs₁ us ds).lists))
      × (r ≡ (filed_into c to (settle c (areas c vs₁ us ds).state) (areas c vs₁ us ds).lists).answer) →
      st ≡ stop_of r → Finishes (areas c vs us ds) (areas c vs₂ us₂ ds₂) st (finished c to (areas c vs us ds).state left stop (areas c vs us ds).lists)
  unfolding finished if◌then◌otherwise◌ with_left wires≔
  finish_settled vs us ds vs₁ vs₂ us₂ ds₂ r st z ev e es =
      let p : areas c vs₁ us ds ≡ with_state (areas c vs us ds) (wires≔ (areas c vs us ds).state (publish_writes c (areas c vs us ds).state.wires)) =
      ap (λ (v : Values). together v (units c us) (delays c ds)) ev
      in
      rw (eq-eqb stop 0 z)
      record {
        areas = e.0 ∙ ap (λ (a : Contents). with_went a (filed_of c to a)) p;
        stop = es ∙ ap stop_of (e.1 ∙ ap (λ (a : Contents). (filed_of c to a).answer) p);
      }

-- ---- the whole

finished_left : (c : Circuit) (to : Place) (s : State) (left stop : ℕ) (l : Lists) → left ≡ (finished c to s left stop l).left
unfolding finished with_left
finished_left c to s left stop l = go (eqb stop 0)
  where
    go : (b : Bool) → left ≡ (if b then with_left left (filed_into c to (settle c (wires≔ s (publish_writes c s.wires))) l) otherwise record { state = s; lists = l; left = left; stop = stop }).left
    go true = unfold if◌then◌otherwise◌ in refl
    go false = unfold if◌then◌otherwise◌ in refl

module _ (c : Circuit) (to : Place) (left : ℕ) (α : Act) (a b d : Contents) (k : Ran) (st : ℕ) where
  chain_ran :
      Runs (with_calls (with_state a (enter c a.state α)) (begin c α)) b k (run_chain c left (begin c α) (enter c a.state α)) →
      Finishes b d st (finished c to b.state k.left k.stop b.lists) → RanAs a d (record { left = k.left; stop = st }) (ran c to left α a.state a.lists)
  unfolding ran finished_chain
  chain_ran e f =
      let h : Chained = run_chain c left (begin c α) (enter c a.state α) in
      let s : b.state ≡ h.state = ap (λ (x : Contents). x.state) e.state in
      let l : b.lists ≡ a.lists = ap (λ (x : Contents). x.lists) e.state in
      let n : b.kept ≡ a.kept = ap (λ (x : Contents). x.kept) e.state in
      let z : finished c to b.state k.left k.stop b.lists ≡ finished c to h.state h.left h.stop a.lists =
      λ j. finished c to (s j) (e.left j) (e.stop j) (l j)
      in
      record {
        areas =
            ap (λ (x : Contents). with_calls x no_calls) f.areas
            ∙ ap₂ (λ (x : Result) (y : Kept). record { state = x.state; lists = x.lists; calls = no_calls; kept = y }) z n;
        left = e.left ∙ finished_left c to h.state h.left h.stop a.lists;
        stop = f.stop ∙ ap (λ (x : Result). x.stop) z;
      }

pub unit_ran :
    (c : Circuit) (to : Place) (left : ℕ) (α : Act) (vs us ds vs₁ us₁ vs₂ us₂ ds₂ vs₃ us₃ ds₃ : List ℕ) (k : Ran) (st : ℕ) →
    values c vs₁ ≡ with_wires (values c vs) (set_outs c (values c vs).wires (output c α.gate 1) α.row) → units c us₁ ≡ on_units.with_calls (units c us) (begin c α) →
    Runs (areas c vs₁ us₁ ds) (areas c vs₂ us₂ ds₂) k (run_chain c left (areas c vs₁ us₁ ds).calls (areas c vs₁ us₁ ds).state) →
    Finishes (areas c vs₂ us₂ ds₂) (areas c vs₃ us₃ ds₃) st (finished c to (areas c vs₂ us₂ ds₂).state k.left k.stop (areas c vs₂ us₂ ds₂).lists) →
    RanAs (areas c vs us ds) (areas c vs₃ us₃ ds₃) (record { left = k.left; stop = st }) (ran c to left α (areas c vs us ds).state (areas c vs us ds).lists)
unfolding enter wires≔
unit_ran c to left α vs us ds vs₁ us₁ vs₂ us₂ ds₂ vs₃ us₃ ds₃ k st ev eu e f =
    let p : areas c vs₁ us₁ ds ≡ with_calls (with_state (areas c vs us ds) (enter c (areas c vs us ds).state α)) (begin c α) = ap₂ (λ (v : Values) (u : Units). together v u (delays c ds)) ev eu in
    chain_ran c to left α (areas c vs us ds) (areas c vs₂ us₂ ds₂) (areas c vs₃ us₃ ds₃) k st
    (subst (λ (x : Contents). Runs x (areas c vs₂ us₂ ds₂) k (run_chain c left x.calls x.state)) p e)
    f
