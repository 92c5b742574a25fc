-- The calls that a unit makes first: one law for each way out of a function.
use Prim.Native.Nat.{ℕ, suc, ◌-◌, ◌≤◌, ◌<◌}
use mathlib.Core.Path.{◌≡◌, sym, ap, ap₂, ◌∙◌}
use mathlib.Core.Bool.{Bool, true, false, not, ◌&&◌}
use mathlib.Core.List.{List, [], ◌∷◌, map}
use mathlib.Core.Option.{some}
use native.Mathlib.Omega.{arith}
use borrow.Author.Tests.{le-leb, lt-leb, leb-true, eq-eqb, ne_eqb}
use lib.Dec.{leb, ltb}
use lib.ListN.{length, length-append, length-map}
use Rattle.lists.specs.Lists.{Filed}
use Rattle.model.specs.declared.Value.{Value}
use Rattle.model.specs.Base.{if◌then◌otherwise◌, keep}
use Rattle.model.specs.Circuit.{Circuit, Call, kind_of_gate, input, output, calls_of}
use Rattle.model.specs.State.{Send}
use Rattle.model.specs.Chain.{Calls, no_calls, fit, push_calls}
use Rattle.model.specs.Unit.{fired, begin}
use Rattle.model.proofs.Lists.{both_true}
use Rattle.units.specs.View.{Units, gate_of, form_of, act_of, event_of, units}
use Rattle.units.specs.Calls.{with_calls, fits_one, called}
use Rattle.chain.specs.Chain.{Pushes}
use Rattle.chain.proofs.Fits.{fit_is}
use Rattle.unit.specs.declared.Act.{Act as Entered}
use Rattle.unit.specs.declared.Act.TheVariants.{Waiting, Event}
use Rattle.unit.specs.Unit.{FewCalls, act_in}

-- ---- the output that it fires

module _ (c : Circuit) (g form r : ℕ) where
  pub fired_form : 32 ≤ form → (r ≡ output c g (form - 32)) × (r < 131072) → r ≡ fired c g form
  unfolding fired if◌then◌otherwise◌
  fired_form h e = rw (le-leb 32 form h) e.0

  pub fired_expired : (k : ℕ) → form < 32 → k ≡ kind_of_gate c g → k ≡ 15 → (r ≡ output c g 1) × (r < 131072) → r ≡ fired c g form
  unfolding fired if◌then◌otherwise◌
  fired_expired k h ek z e = rw (lt-leb 32 form h, eq-eqb (kind_of_gate c g) 15 (sym ek ∙ z)) e.0

  pub fired_first : (k : ℕ) → form < 32 → k ≡ kind_of_gate c g → (k ≡ 15 → ⊥) → (r ≡ output c g 0) × (r < 131072) → r ≡ fired c g form
  unfolding fired if◌then◌otherwise◌
  fired_first k h ek z e = rw (lt-leb 32 form h, ne_eqb (kind_of_gate c g) 15 (λ q. z (ek ∙ q))) e.0

-- ---- the form of a pin

pub pin_below : (form : ℕ) → form < 16 → false ≡ (leb 16 form && ltb form 32)
pin_below form h = rw (lt-leb 16 form h)

pub pin_from : (form : ℕ) → 16 ≤ form → ltb form 32 ≡ (leb 16 form && ltb form 32)
pin_from form h = rw (le-leb 16 form h)

pub pin_least : (form : ℕ) (b : Bool) → b ≡ (leb 16 form && ltb form 32) → b ≡ true → 16 ≤ form
pin_least form b e t = leb-true 16 form (both_true (leb 16 form) (ltb form 32) (sym e ∙ t)).0

-- ---- the calls

keep_few : (p : Call → Bool) (ks : List Call) → length (keep p ks) ≤ length ks
unfolding keep if◌then◌otherwise◌
keep_few p [] = omega arith
keep_few p (k ∷ ks) = go (p k) (keep_few p ks)
  where
    go : (b : Bool) → length (keep p ks) ≤ length ks → length (if b then k ∷ keep p ks otherwise keep p ks) ≤ suc (length ks)
    go true h = omega (arith, h)
    go false h = omega (arith, h)

few_fit : (c : Circuit) (o : ℕ) → FewCalls c → fit (push_calls c (some o) no_calls) ≡ true
unfolding push_calls
few_fit c o few =
    let others : List Call = keep (λ k. not k.remote) (calls_of c o) in
    let remote : List Call = keep (λ k. k.remote) (calls_of c o) in
    fit_is
    (push_calls c (some o) no_calls)
    (omega (arith, few o, keep_few (λ k. not k.remote) (calls_of c o), length-map others (λ k. k.to), length-append (map (λ k. k.to) others) []))
    (omega (arith, few o, keep_few (λ k. k.remote) (calls_of c o), length-map remote (λ k. k.to)))

module _ (c : Circuit) (us us₁ us₂ : List ℕ) (g form : ℕ) (b : Bool) (r : Filed) (e₁ : units c us₁ ≡ with_calls (units c us) no_calls) (eb : b ≡ (leb 16 form && ltb form 32)) where
  pub begin_pin :
      (i : ℕ) → b ≡ true → (i ≡ input c g (form - 16)) × (i < 131072) → (r ≡ fits_one (units c us₁).calls.stack) × (units c us₂ ≡ with_calls (units c us₁) (called i (units c us₁).calls)) →
      (row : List Value) → units c us₂ ≡ with_calls (units c us) (begin c (record { gate = g; form = form; row = row }))
  unfolding begin if◌then◌otherwise◌ called
  begin_pin i t ei e₂ row =
      rw (sym eb ∙ t)
      (e₂.1
      ∙ ap (λ (u : Units). with_calls u (called i u.calls)) e₁
      ∙ ap (λ (j : ℕ). with_calls (units c us) (record { stack = j ∷ []; forks = [] })) ei.0)

  pub begin_fires :
      (o : ℕ) → b ≡ false → o ≡ fired c g form → Pushes (units c us₁) (units c us₂) r (push_calls c (some o) (units c us₁).calls) → FewCalls c →
      (row : List Value) → units c us₂ ≡ with_calls (units c us) (begin c (record { gate = g; form = form; row = row }))
  unfolding begin if◌then◌otherwise◌
  begin_fires o f eo p few row =
      let q : push_calls c (some o) (units c us₁).calls ≡ push_calls c (some o) no_calls = ap (λ (u : Units). push_calls c (some o) u.calls) e₁ in
      rw (sym eb ∙ f)
      (ap₂ (λ (u : Units) (x : Calls). with_calls u x) (p.others ∙ ap (λ (u : Units). with_calls u no_calls) e₁) (p.calls (ap fit q ∙ few_fit c o few) ∙ q)
      ∙ ap (λ (j : ℕ). with_calls (units c us) (push_calls c (some j) no_calls)) eo)

module _ (c : Circuit) (us us₁ : List ℕ) (es : List Send) (a : Entered) (x g : ℕ) where
  pub begin_waiting :
      (form : ℕ) → a ≡ Waiting x → (g ≡ gate_of x) × (g < 65536) → (form ≡ form_of x) × (form < 65536) →
      ((row : List Value) → units c us₁ ≡ with_calls (units c us) (begin c (record { gate = g; form = form; row = row }))) → units c us₁ ≡ with_calls (units c us) (begin c (act_in c es a))
  unfolding act_in act_of
  begin_waiting form ea eg ef e =
      rw ea (e (act_of c x).row ∙ ap₂ (λ (y z : ℕ). with_calls (units c us) (begin c (record { gate = y; form = z; row = (act_of c x).row }))) eg.0 ef.0)

  pub begin_event :
      a ≡ Event x → (g ≡ gate_of x) × (g < 65536) → ((row : List Value) → units c us₁ ≡ with_calls (units c us) (begin c (record { gate = g; form = 1; row = row }))) →
      units c us₁ ≡ with_calls (units c us) (begin c (act_in c es a))
  unfolding act_in event_of
  begin_event ea eg e =
      rw ea (e (event_of es x).row ∙ ap (λ (y : ℕ). with_calls (units c us) (begin c (record { gate = y; form = 1; row = (event_of es x).row }))) eg.0)
