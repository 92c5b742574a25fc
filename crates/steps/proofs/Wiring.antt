-- Steps that change the wires alone: one law for each way out of a function.
use Prim.Native.Nat.{ℕ, ◌^◌, ◌<◌}
use mathlib.Core.Path.{◌≡◌, refl, sym, ap, ◌∙◌, subst}
use mathlib.Core.Bool.{Bool, true, false, not}
use native.Mathlib.Omega.{arith}
use borrow.Author.Tests.{ltb-true, eq-eqb, ne_eqb}
use lib.Dec.{T, eqb}
use lib.IntN.{ℤ, pos, negsuc, nat_abs}
use lib.ListN.{get_or, set}
use lib.Signed.{lt_z, non_neg}
use mir.Syntax.{w64}
use mir.Val.{to_z, of_z, Fits, SFits}
use mir.Facts.{to_z-of_z}
use Rattle.model.specs.declared.Value.{Value}
use Rattle.model.specs.declared.Value.TheVariants.{Int, Bool as Truth}
use Rattle.model.specs.Base.{if◌then◌otherwise◌, each, from}
use Rattle.model.specs.Value.{truthy, as_int}
use Rattle.model.specs.Circuit.{Circuit, input, output, setting}
use Rattle.model.specs.State.{Wires, wires≔, unions_passed≔, breaking≔}
use Rattle.model.specs.Delays.{nat}
use Rattle.model.specs.Wires.{shown, show, look, ready, set_out}
use Rattle.model.specs.Exec.{cycle_next, set_output, readied, read, var, record_write, exec-VarGet, exec-VarSet, exec-Branch, exec-Union, exec-Toggle, exec-Cycle, exec-Break}
use Rattle.wires.specs.View.{Values, with_wires}
use Rattle.states.specs.View.{Delays}
use Rattle.units.specs.View.{Units}
use Rattle.areas.specs.Areas.{together}
use Rattle.steps.specs.Steps.{Makes}
use Rattle.steps.proofs.Making.{Fires, Ends, if_true, if_false, makes_as, makes_fires, makes_ends}

-- ---- the Var that a setting names

pub nat_below : (x : ℤ) → lt_z x (pos 0) ≡ true → nat x ≡ 0
unfolding nat
nat_below (pos n) h = absurd (omega (arith, ltb-true n 0 h))
nat_below (negsuc n) h = refl

pub nat_rest : (x : ℤ) → SFits w64 x → lt_z x (pos 0) ≡ false → (T (non_neg x)) × (Fits w64 (nat_abs x)) × (nat_abs x ≡ nat x)
unfolding nat
nat_rest (pos n) f h = let s : n < 2 ^ 63 = f.sfits in (tt, record { fits = omega arith }, refl)
nat_rest (negsuc n) f h = absurd (subst T h tt)

-- a cast of a number that is not negative
pub var_cast : (x : ℤ) → SFits w64 x → lt_z (to_z w64 (of_z w64 x)) (pos 0) ≡ false → T (non_neg (to_z w64 (of_z w64 x))) × Fits w64 (nat_abs (to_z w64 (of_z w64 x)))
var_cast x f h = let n = nat_rest x f (rw (to_z-of_z f) at h) in rw (to_z-of_z f) (n.0, n.1)

module _ (c : Circuit) (g o : ℕ) (v : Value) (x : ℤ) (f : SFits w64 x) (ev : v ≡ setting c g 1) (ex : x ≡ as_int (pos 0) v) where
  var_number : (n : ℕ) → nat x ≡ n → o ≡ output c n 0 → o ≡ var c g
  unfolding var
  var_number n h e = e ∙ ap (λ (k : ℕ). output c k 0) (sym h ∙ ap nat (ex ∙ ap (as_int (pos 0)) ev))

  pub var_negative : lt_z (to_z w64 (of_z w64 x)) (pos 0) ≡ true → (o ≡ output c 0 0) × (o < 131072) → o ≡ var c g
  var_negative h e = var_number 0 (nat_below x (rw (to_z-of_z f) at h)) e.0

  pub var_named : lt_z (to_z w64 (of_z w64 x)) (pos 0) ≡ false → (o ≡ output c (nat_abs (to_z w64 (of_z w64 x))) 0) × (o < 131072) → o ≡ var c g
  var_named h e =
      var_number (nat_abs x) (sym (nat_rest x f (rw (to_z-of_z f) at h)).2) (e.0 ∙ ap (λ (z : ℤ). output c (nat_abs z) 0) (to_z-of_z f))

module _ (c : Circuit) (g : ℕ) (v : Values) where
  -- ---- Vars

  pub gets :
      (a o o₀ : ℕ) (x : Value) (v₁ : Values) → a ≡ var c g → x ≡ shown v.wires a → (o ≡ output c g 1) × (o < 131072) → v₁ ≡ with_wires v (set_out c v.wires o x) →
      (o₀ ≡ output c g 0) × (o₀ < 131072) → (u : Units) (d : Delays) → Makes (together v u d) (together v₁ u d) (Fires o₀) (exec-VarGet c (together v u d).state g)
  unfolding exec-VarGet set_output
  gets a o o₀ x v₁ ea ex eo e e₀ u d =
      let p : v₁ ≡ with_wires v (set_out c v.wires (output c g 1) (shown v.wires (var c g))) = rw (← ea, ← ex, ← eo.0) e in
      makes_fires v v₁ (set_out c v.wires (output c g 1) (shown v.wires (var c g))) o₀ (output c g 0) p e₀.0 u d

  pub sets :
      (inside : Bool) (i o o₀ : ℕ) (x : Value) (v₁ v₂ v₃ : Values) → (i ≡ input c g 2) × (i < 131072) → o ≡ var c g → v₁ ≡ with_wires v (ready c v.wires i) → x ≡ look c v₁.wires i →
      v₂ ≡ with_wires v₁ (show v₁.wires o x) → v₃ ≡ with_wires v₂ (record_write c inside v₂.wires o) → (o₀ ≡ output c g 0) × (o₀ < 131072) →
      (u : Units) (d : Delays) → Makes (together v u d) (together v₃ u d) (Fires o₀) (exec-VarSet c inside (together v u d).state g)
  unfolding exec-VarSet readied read each from wires≔
  sets inside i o o₀ x v₁ v₂ v₃ ei eo e₁ ex e₂ e₃ e₀ u d =
      let w : Wires = record_write c inside (show (ready c v.wires (input c g 2)) (var c g) (look c (ready c v.wires (input c g 2)) (input c g 2))) (var c g) in
      let p : v₃ ≡ with_wires v w = rw (← eo, ← ei.0, e₃, e₂, ex, e₁) in
      makes_fires v v₃ w o₀ (output c g 0) p e₀.0 u d

  -- ---- Branch

  module _ (i o : ℕ) (x : Value) (t : Bool) (v₁ : Values) (ei : (i ≡ input c g 1) × (i < 131072)) (e₁ : v₁ ≡ with_wires v (ready c v.wires i)) (ex : x ≡ look c v₁.wires i) (et : t ≡ truthy x) where
    branches :
        (p : ℕ) → (if t then 0 otherwise 1) ≡ p → o ≡ output c g p → (u : Units) (d : Delays) → Makes (together v u d) (together v₁ u d) (Fires o) (exec-Branch c (together v u d).state g)
    unfolding exec-Branch readied read each from wires≔
    branches p h eo u d =
        let w : Wires = ready c v.wires (input c g 1) in
        let q : v₁ ≡ with_wires v w = rw (← ei.0) e₁ in
        let k : t ≡ truthy (look c w (input c g 1)) = rw (← ei.0) (et ∙ ap truthy (ex ∙ ap (λ (y : Values). look c y.wires i) e₁)) in
        makes_fires v v₁ w o (output c g (if truthy (look c w (input c g 1)) then 0 otherwise 1)) q (eo ∙ ap (output c g) (sym h ∙ ap (λ (b : Bool). if b then 0 otherwise 1) k)) u d

    pub branches_first : t ≡ true → (o ≡ output c g 0) × (o < 131072) → (u : Units) (d : Delays) → Makes (together v u d) (together v₁ u d) (Fires o) (exec-Branch c (together v u d).state g)
    branches_first h eo u d = branches 0 (if_true t 0 1 h) eo.0 u d

    pub branches_second : t ≡ false → (o ≡ output c g 1) × (o < 131072) → (u : Units) (d : Delays) → Makes (together v u d) (together v₁ u d) (Fires o) (exec-Branch c (together v u d).state g)
    branches_second h eo u d = branches 1 (if_false t 0 1 h) eo.0 u d

  -- ---- Union

  module _ (t : Bool) (et : t ≡ get_or v.wires.unions_passed g false) where
    pub union_ends : t ≡ true → (u : Units) (d : Delays) → Makes (together v u d) (together v u d) Ends (exec-Union c (together v u d).state g)
    unfolding exec-Union
    union_ends h u d = makes_as _ _ _ _ _ (if_true (get_or v.wires.unions_passed g false) _ _ (sym et ∙ h)) (makes_ends (together v u d))

    pub union_passes :
        (v₁ : Values) (o : ℕ) → t ≡ false → v₁ ≡ with_wires v (unions_passed≔ v.wires (set v.wires.unions_passed g true)) → (o ≡ output c g 0) × (o < 131072) →
        (u : Units) (d : Delays) → Makes (together v u d) (together v₁ u d) (Fires o) (exec-Union c (together v u d).state g)
    unfolding exec-Union
    union_passes v₁ o h e eo u d =
        makes_as _ _ _ _ _
        (if_false (get_or v.wires.unions_passed g false) _ _ (sym et ∙ h))
        (makes_fires v v₁ (unions_passed≔ v.wires (set v.wires.unions_passed g true)) o (output c g 0) e eo.0 u d)

  -- ---- Break

  pub breaks :
      (v₁ : Values) (o : ℕ) → v₁ ≡ with_wires v (breaking≔ v.wires true) → (o ≡ output c g 0) × (o < 131072) →
      (u : Units) (d : Delays) → Makes (together v u d) (together v₁ u d) (Fires o) (exec-Break c (together v u d).state g)
  unfolding exec-Break
  breaks v₁ o e eo u d = makes_fires v v₁ (breaking≔ v.wires true) o (output c g 0) e eo.0 u d

  -- ---- Toggle

  pub toggles :
      (o o₀ : ℕ) (x : Value) (t : Bool) (v₁ : Values) → (o ≡ output c g 1) × (o < 131072) → x ≡ shown v.wires o → t ≡ truthy x → v₁ ≡ with_wires v (set_out c v.wires o (Truth (not t))) →
      (o₀ ≡ output c g 0) × (o₀ < 131072) → (u : Units) (d : Delays) → Makes (together v u d) (together v₁ u d) (Fires o₀) (exec-Toggle c (together v u d).state g)
  unfolding exec-Toggle set_output
  toggles o o₀ x t v₁ eo ex et e e₀ u d =
      let w : Wires = set_out c v.wires (output c g 1) (Truth (not (truthy (shown v.wires (output c g 1))))) in
      let p : v₁ ≡ with_wires v w = rw (← eo.0, ← ex, ← et) e in
      makes_fires v v₁ w o₀ (output c g 0) p e₀.0 u d

  -- ---- Cycle

  pub cycles :
      (p q i o o₀ n : ℕ) (x y : Value) (now count : ℤ) (v₁ v₂ : Values) → SFits w64 now → SFits w64 count → (i ≡ input c g 2) × (i < 131072) → (o ≡ output c g 2) × (o < 131072) →
      v₁ ≡ with_wires v (ready c v.wires i) → x ≡ shown v₁.wires o → now ≡ as_int (pos 0) x → y ≡ look c v₁.wires i → count ≡ as_int (pos 0) y →
      n ≡ cycle_next (eqb p 1) (to_z w64 (of_z w64 count)) (to_z w64 (of_z w64 now)) → v₂ ≡ with_wires v₁ (set_out c v₁.wires o (Int n)) → q ≡ (if eqb p 1 then 1 otherwise 0) →
      (o₀ ≡ output c g q) × (o₀ < 131072) → (u : Units) (d : Delays) → Makes (together v u d) (together v₂ u d) (Fires o₀) (exec-Cycle c (together v u d).state g p)
  unfolding exec-Cycle set_output readied read each from wires≔
  cycles p q i o o₀ n x y now count v₁ v₂ fn fc ei eo e₁ ex en ey ec e₃ e₂ eq e₀ u d =
      let w₁ : Wires = ready c v.wires (input c g 2) in
      let w : Wires = set_out c w₁ (output c g 2) (Int (cycle_next (eqb p 1) (as_int (pos 0) (look c w₁ (input c g 2))) (as_int (pos 0) (shown w₁ (output c g 2))))) in
      let m : n ≡ cycle_next (eqb p 1) count now = rw (to_z-of_z fn, to_z-of_z fc) at e₃ in
      let r : v₂ ≡ with_wires v w = rw (← ei.0, ← eo.0, e₂, m, en, ec, ex, ey, e₁) in
      makes_fires v v₂ w o₀ (output c g (if eqb p 1 then 1 otherwise 0)) r (e₀.0 ∙ ap (output c g) eq) u d

-- the output that pin p fires
pub fires_down : (p : ℕ) → p ≡ 1 → ◌≡◌ {A = ℕ} 1 (if eqb p 1 then 1 otherwise 0)
unfolding if◌then◌otherwise◌
fires_down p h = rw (eq-eqb p 1 h)

pub fires_up : (p : ℕ) → (p ≡ 1 → ⊥) → ◌≡◌ {A = ℕ} 0 (if eqb p 1 then 1 otherwise 0)
unfolding if◌then◌otherwise◌
fires_up p h = rw (ne_eqb p 1 h)
