-- What a Loop does beside running its body: one law for each way out of a function.
use Prim.Native.Nat.{ℕ, zero, suc, ◌-◌, ◌≤◌}
use mathlib.Core.Path.{◌≡◌, refl, sym, ap, ◌∙◌, subst}
use mathlib.Core.Bool.{Bool, true, false, not, ◌&&◌}
use mathlib.Core.List.{List, map}
use native.Mathlib.Omega.{arith}
use lib.Dec.{ltb, eqb}
use lib.IntN.{ℤ, pos, nat_abs}
use lib.Signed.{lt_z}
use borrow.Author.Tests.{eq-eqb, ne_eqb, le-ltb, lt-ltb}
use mir.Syntax.{w64}
use mir.Val.{to_z, of_z, SFits}
use mir.Facts.{to_z-of_z}
use Rattle.model.specs.declared.Value.{Value}
use Rattle.model.specs.declared.Value.TheVariants.{Int, Bool as Truth}
use Rattle.model.specs.Base.{each, from}
use Rattle.model.specs.Value.{as_int}
use Rattle.model.specs.Circuit.{Circuit, entry_of_loop, input, output}
use Rattle.model.specs.State.{Wires, unions_passed≔, breaking≔, runs_left≔, wires≔}
use Rattle.model.specs.Wires.{look, ready, set_out}
use Rattle.model.specs.Delays.{nat}
use Rattle.model.specs.Exec.{set_output, readied}
use Rattle.model.specs.Chain.{no_calls, Chained, chained, unless_stopped, fire_output}
use Rattle.model.specs.Loops as model
use Rattle.model.specs.Loops.{no_unions, break_set, begin_body, show_loop, loop_over}
use Rattle.wires.specs.View.{Values, with_wires}
use Rattle.units.specs.View.{Units}
use Rattle.states.specs.View.{Delays}
use Rattle.areas.specs.Areas.{Contents, together, with_state}
use Rattle.chain.specs.declared.Ran.{Ran}
use Rattle.chain.specs.Chain.{Runs, started}
use Rattle.steps.proofs.Wiring.{nat_below, nat_rest}
use Rattle.chain.proofs.Runs.{runs_from}
use Rattle.loops.specs.declared.counting.Counts.{Counts}
use Rattle.loops.specs.declared.counting.Looped.{Looped}
use Rattle.loops.specs.Loops.{CountsRead, BeginsLoop, EndsLoop}

-- ---- a number that is not below 0

pub natural_none : (x : ℤ) → SFits w64 x → lt_z (to_z w64 (of_z w64 x)) (pos 0) ≡ true → 0 ≡ nat x
natural_none x f h = sym (nat_below x (rw (to_z-of_z f) at h))

pub natural_is : (x : ℤ) → SFits w64 x → lt_z (to_z w64 (of_z w64 x)) (pos 0) ≡ false → nat_abs (to_z w64 (of_z w64 x)) ≡ nat x
natural_is x f h = ap nat_abs (to_z-of_z f) ∙ (nat_rest x f (rw (to_z-of_z f) at h)).2

-- ---- the count of runs

module _ (v : Values) (n : ℕ) (e : n ≡ v.wires.runs_left) where
  pub run_refused : n ≡ 0 → (false ≡ ltb 0 v.wires.runs_left) × (v ≡ with_wires v (runs_left≔ v.wires (v.wires.runs_left - 1)))
  unfolding runs_left≔
  run_refused z =
      let k : v.wires.runs_left ≡ v.wires.runs_left - 1 = omega (arith, e, z) in
      (sym (le-ltb 0 v.wires.runs_left (omega (arith, e, z))), (λ j. with_wires v (runs_left≔ v.wires (k j))))

  pub run_counted :
      (v₁ : Values) → (n ≡ 0 → ⊥) → v₁ ≡ with_wires v (runs_left≔ v.wires (n - 1)) →
      (true ≡ ltb 0 v.wires.runs_left) × (v₁ ≡ with_wires v (runs_left≔ v.wires (v.wires.runs_left - 1)))
  run_counted v₁ z h =
      (sym (lt-ltb 0 v.wires.runs_left (go n z e)), h ∙ ap (λ (k : ℕ). with_wires v (runs_left≔ v.wires (k - 1))) e)
    where
      go : (n : ℕ) → (n ≡ 0 → ⊥) → n ≡ v.wires.runs_left → suc 0 ≤ v.wires.runs_left
      go zero z e = absurd (z refl)
      go (suc n) z e = omega (arith, e)

-- ---- whether it goes on

pub on_unless : (stop : ℕ) (b d : Bool) → stop ≡ 0 → b ≡ d → not b ≡ (eqb stop 0 && not d)
on_unless stop b d h e = let z = eq-eqb stop 0 h in rw z (ap not e)

-- ---- a run of a body begins

pub body_begun :
    (c : Circuit) (g x i left o o₂ : ℕ) (v v₁ v₂ : Values) (u : Units) (d : Delays) (y : Contents) (r : Ran) →
    x ≡ entry_of_loop c g → o ≡ output c x 1 → v₁ ≡ with_wires v (set_out c v.wires o (Int i)) →
    v₂ ≡ with_wires v₁ (unions_passed≔ v₁.wires (map (λ _. false) v₁.wires.unions_passed)) → o₂ ≡ output c x 0 →
    Runs (together v₂ u d) y r (fire_output c o₂ (started (together v₂ u d) left)) → Runs (together v u d) y r (begin_body c g i (started (together v u d) left))
unfolding begin_body no_unions set_output wires≔ chained
body_begun c g x i left o o₂ v v₁ v₂ u d y r ex eo e₁ e₂ eo₂ p =
    let w : Values = with_wires v (no_unions (set_output c (together v u d).state (output c (entry_of_loop c g) 1) (Int i))).wires in
    let e : v₂ ≡ w = rw (e₂, e₁, eo, ex) in
    let f : o₂ ≡ output c (entry_of_loop c g) 0 = eo₂ ∙ ap (λ (h : ℕ). output c h 0) ex in
    runs_from {a = together v u d} {b = together w u d} refl refl
    (subst (λ (x : Values). Runs (together x u d) y r (fire_output c (output c (entry_of_loop c g) 0) (started (together x u d) left))) e
    (subst (λ (q : ℕ). Runs (together v₂ u d) y r (fire_output c q (started (together v₂ u d) left))) f p))

-- ---- its runs are over

module _ (c : Circuit) (g : ℕ) (broke : Bool) (l : Looped) (v : Values) where
  pub over_stopped :
      (l.stop ≡ 0 → ⊥) → (u : Units) (d : Delays) → EndsLoop c g broke l (together v u d) (together v u d) (record { left = l.left; stop = l.stop })
  unfolding loop_over unless_stopped model.looped chained
  over_stopped h u d = let e = ne_eqb l.stop 0 h in rw (e, loop_over, unless_stopped) (refl, refl)

  pub over_shown :
      (o₁ o₂ o₃ : ℕ) (v₁ v₂ v₃ v₄ : Values) → l.stop ≡ 0 → v₁ ≡ with_wires v (breaking≔ v.wires broke) → o₁ ≡ output c g 1 →
      v₂ ≡ with_wires v₁ (set_out c v₁.wires o₁ (Int l.done)) → o₂ ≡ output c g 2 → v₃ ≡ with_wires v₂ (set_out c v₂.wires o₂ (Truth l.aborted)) →
      o₃ ≡ output c g 3 → v₄ ≡ with_wires v₃ (set_out c v₃.wires o₃ (Truth false)) →
      (u : Units) (d : Delays) → EndsLoop c g broke l (together v u d) (together v₄ u d) (record { left = l.left; stop = 0 })
  unfolding loop_over unless_stopped model.looped chained show_loop break_set set_output wires≔
  over_shown o₁ o₂ o₃ v₁ v₂ v₃ v₄ h e₁ f₁ e₂ f₂ e₃ f₃ e₄ u d =
      let z = eq-eqb l.stop 0 h in
      rw (z, loop_over, unless_stopped) (rw (e₄, e₃, e₂, e₁, f₁, f₂, f₃), λ j. record { left = l.left; stop = sym h j })

-- ---- it begins

-- a number by its word
word_back : (z : ℤ) (n : ℕ) → SFits w64 z → n ≡ of_z w64 (to_z w64 (of_z w64 z)) → to_z w64 n ≡ z
word_back z n f e = ap (to_z w64) (e ∙ ap (of_z w64) (to_z-of_z f)) ∙ to_z-of_z f

pub counts_read :
    (c : Circuit) (g j₁ j₂ j₃ : ℕ) (w : Wires) (x₁ x₂ x₃ : Value) (count first step : ℤ) (n f s : ℕ) (broke : Bool) → SFits w64 count → SFits w64 first → SFits w64 step →
    j₁ ≡ input c g 1 → x₁ ≡ look c w j₁ → count ≡ as_int (pos 0) x₁ → n ≡ nat (to_z w64 (of_z w64 count)) →
    j₂ ≡ input c g 2 → x₂ ≡ look c w j₂ → first ≡ as_int (pos 0) x₂ → f ≡ of_z w64 (to_z w64 (of_z w64 first)) →
    j₃ ≡ input c g 3 → x₃ ≡ look c w j₃ → step ≡ as_int (pos 1) x₃ → s ≡ of_z w64 (to_z w64 (of_z w64 step)) →
    CountsRead c g w broke (record { count = n; first = f; step = s; broke = broke })
counts_read c g j₁ j₂ j₃ w x₁ x₂ x₃ count first step n f s broke fc ff fs ej₁ ex₁ ec en ej₂ ex₂ ef wf ej₃ ex₃ es ws =
    record {
      count = en ∙ ap nat (to_z-of_z fc) ∙ rw (ec, ex₁, ej₁);
      first = word_back first f ff wf ∙ rw (ef, ex₂, ej₂);
      step = word_back step s fs ws ∙ rw (es, ex₃, ej₃);
      broke = refl;
    }

pub loop_begun :
    (c : Circuit) (g i : ℕ) (v v₁ v₂ : Values) (broke : Bool) (r : Counts) → i ≡ input c g 1 → v₁ ≡ with_wires v (each (ready c) v.wires (from i 3)) →
    broke ≡ v₁.wires.breaking → CountsRead c g v₁.wires broke r → v₂ ≡ with_wires v₁ (breaking≔ v₁.wires false) →
    (u : Units) (d : Delays) → BeginsLoop c g (together v u d) (together v₂ u d) r
unfolding readied break_set wires≔
loop_begun c g i v v₁ v₂ broke r ei e₁ eb er e₂ u d =
    let w : Wires = each (ready c) v.wires (from (input c g 1) 3) in
    let e : v₁ ≡ with_wires v w = e₁ ∙ ap (λ (k : ℕ). with_wires v (each (ready c) v.wires (from k 3))) ei in (
      ap (λ (x : Values). together x u d) (e₂ ∙ ap (λ (x : Values). with_wires x (breaking≔ x.wires false)) e),
      subst (λ (x : Values). CountsRead c g x.wires x.wires.breaking r) e (subst (λ (b : Bool). CountsRead c g v₁.wires b r) eb er),
    )
