-- The loop of a pass, any: one law for each turn and each end, over what the code's functions say.
use Prim.Native.Nat.{ℕ, zero, suc, ◌-◌, ◌≤◌, ◌<◌}
use mathlib.Core.Path.{◌≡◌, refl, sym, ◌∙◌, subst}
use mathlib.Core.Option.{Option, none, some}
use native.Mathlib.Omega.{arith}
use Rattle.schedule.specs.Schedule.{When, Filed, Activation, Took, empty, took, pass}
use Rattle.model.specs.Circuit.{Circuit}
use Rattle.model.specs.State.{Act as UnitAct}
use Rattle.model.specs.Unit.{World}
use Rattle.wires.specs.View.{Values}
use Rattle.states.specs.View.{Delays}
use Rattle.units.specs.declared.Place.{Place}
use Rattle.units.specs.View.{Lists, Units}
use Rattle.units.specs.Raising.{with_lists, activate, place_for}
use Rattle.areas.specs.Areas.{Contents, together}
use Rattle.chain.specs.declared.Ran.{Ran}
use Rattle.unit.specs.Unit.{ran}
use Rattle.passes.specs.Waiting.{bare, waiting}
use Rattle.passes.specs.Passes.{units_left, Passes}
use Rattle.passes.specs.Taking.{over, one_begun, Works}
use Rattle.passes.proofs.Filing.{through}
use Rattle.passes.proofs.Going.{Going, going_on, going_none, going_over, going_stop}

module _ (c : Circuit) {Q : Type 0} (h : Lists → Q) (next : Q → Took (Activation (bare c)) Q) (act : Activation (bare c) → When → Activation (bare c) → Q → Filed Q) where
  module _ (to : UnitAct → Place) (files : (u : UnitAct) (p : When) (a : UnitAct) (l : Lists) → act (waiting c u) p (waiting c a) (h l) ≡ through h (activate c (place_for p (to u)) a l)) where
    module _ (vs : Values) (U U₁ : Units) (D : Delays) (a b₁ : Contents) (r : Ran) (w : World) (left : ℕ) (x : UnitAct) (rest : Lists) (e : U₁ ≡ with_lists U rest) (t : next (h U.lists) ≡ took (waiting c x) (h rest)) (q : Works b₁ r (one_begun (together vs U₁ D).kept x) (ran c (to x) left x (together vs U₁ D).state U₁.lists)) where
      -- with the lists after what was taken
      works : Works b₁ r (one_begun (together vs U D).kept x) (ran c (to x) left x (together vs U D).state rest)
      works = subst (λ (u : Units). Works b₁ r (one_begun (together vs u D).kept x) (ran c (to x) left x (together vs u D).state u.lists)) e q

      -- one began and ran, to no stop
      pub turn_on : (n : ℕ) → r.stop ≡ 0 → 0 < n → Going c h next act a (together vs U D) w left n → Going c h next act a b₁ w r.left (n - 1)
      turn_on zero s z g = absurd (omega arith)
      turn_on (suc n) s z g =
          let k : suc n - 1 ≡ n = omega arith in
          subst (λ (m : ℕ). Going c h next act a b₁ w r.left m) (sym k)
          (subst (λ (m : ℕ). Going c h next act a b₁ w m n) (sym works.left)
          (going_on c h next act to files a (together vs U D) b₁ w left n x rest t works.state works.lists works.kept (sym works.stop ∙ s) g))

      -- it came to a stop
      pub turn_stop : (n : ℕ) → (r.stop ≡ 0 → ⊥) → 0 < n → Going c h next act a (together vs U D) w left n → Passes c h a b₁ r w (pass (bare c) next act (units_left a) tt (h a.lists) w 0)
      turn_stop zero s z g = absurd (omega arith)
      turn_stop (suc n) s z g = going_stop c h next act to files a (together vs U D) b₁ r w left n x rest t works.state works.lists works.kept works.left works.stop s g

  -- nothing waits
  pub turn_none :
      (vs : Values) (U U₁ : Units) (D : Delays) (a : Contents) (r : Ran) (w : World) (left n : ℕ) → U₁ ≡ U → next (h U.lists) ≡ empty → r.left ≡ left → r.stop ≡ 0 →
      Going c h next act a (together vs U D) w left n → Passes c h a (together vs U₁ D) r w (pass (bare c) next act (units_left a) tt (h a.lists) w 0)
  turn_none vs U U₁ D a r w left n e t f o g =
      subst (λ (u : Units). Passes c h a (together vs u D) r w (pass (bare c) next act (units_left a) tt (h a.lists) w 0)) (sym e)
      (going_none c h next act a (together vs U D) r w left n t f o g)

  -- none may begin any more
  pub turn_over :
      (a b : Contents) (r : Ran) (w : World) (left n : ℕ) (o : Option UnitAct) → (none ≡ o → next (h b.lists) ≡ empty) → (rest : Lists) → ((x : UnitAct) → some x ≡ o → next (h b.lists) ≡ took (waiting c x) (h rest)) →
      r.left ≡ left → r.stop ≡ over o → n ≤ 0 → Going c h next act a b w left n → Passes c h a b r w (pass (bare c) next act (units_left a) tt (h a.lists) w 0)
  unfolding over
  turn_over a b r w left zero none i rest j f o z g = going_none c h next act a b r w left 0 (i refl) f o g
  turn_over a b r w left zero (some x) i rest j f o z g = going_over c h next act a b r w left (waiting c x) (h rest) (j x refl) f o g
  turn_over a b r w left (suc n) o₁ i rest j f o z g = absurd (omega arith)
