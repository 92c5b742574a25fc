-- Reading, recomputing and refreshing: one law for each way out of a function.
use Rattle.std.proofs.Common.{◌≡◌, ℕ, zero, suc, ◌-◌, ◌/◌, ◌<◌, ◌≤◌, min, Bool, true, false, leb, List, [], ◌∷◌, length, get_or, set, sym, refl, ap, ◌∙◌, arith, ne_eqb, leb-true}
use mathlib.Core.Option.{none, some}
use lib.ListN.{get_or-eq_default}
use Rattle.std.specs.Prelude.{Option, Some, None}
use Rattle.words.specs.Options.{option_of}
use Rattle.words.specs.Words.{words}
use Rattle.words.specs.Tables.{digits}
use Rattle.words.specs.Bits.{places}
use Rattle.words.proofs.Tables.{digits_length}
use Rattle.model.specs.declared.Value.{Value}
use Rattle.model.specs.declared.Value.TheVariants.{Float}
use Rattle.model.specs.Base.{if◌then◌otherwise◌, all, each, from, base_opened}
use Rattle.model.specs.Value.{truthy}
use Rattle.model.specs.Kinds.{Kind, kind_at, table, kinds_opened}
use Rattle.model.specs.Circuit.{Circuit, kind_of_gate, input, output, inputs_of, source, stored_in, gate_at_output, gates}
use Rattle.model.specs.State.{Wires, outs≔, dirty≔}
use Rattle.model.specs.Wires.{shown, show, is_dirty, clean, look, compute, recompute, behind, refresh_to, refresh, refresh_all, ready}
use Rattle.model.proofs.Lists.{both_true}
use Rattle.model.proofs.Sized.{refresh_keeps}
use Rattle.links.specs.Links.{cell, net}
use Rattle.links.proofs.Reading.{gates_counted}
use Rattle.wires.specs.View.{Values, with_wires, values}
use Rattle.wires.proofs.Area.{cut_peek}
use Rattle.wires.proofs.Lists.{each_by_marks}
use Rattle.wires.proofs.Leaves.{the_dirty}
use Rattle.wires.proofs.Steps.{step, each_step}

-- ---- what stands at an input

module _ (c : Circuit) (w : Wires) (i : ℕ) (r : Value) (s : Option ℕ) (e : option_of s ≡ source c i) where
  pub look_output : (o : ℕ) → s ≡ Some o → r ≡ shown w o → r ≡ look c w i
  unfolding look
  look_output o es er = let q : source c i ≡ some o = sym e ∙ ap option_of es in rw (q, look) er

  pub look_stored : s ≡ None → r ≡ stored_in c i → r ≡ look c w i
  unfolding look
  look_stored es er = let q : source c i ≡ none = sym e ∙ ap option_of es in rw (q, look) er

-- ---- what a pure gate gives

module _ (c : Circuit) (w : Wires) (g k : ℕ) (r : Value) (ek : k ≡ kind_of_gate c g) where
  pub select_b :
      (p q : ℕ) (s : Value) (t : Bool) → k ≡ 1 → (p ≡ input c g 0) × (p < 131072) → s ≡ look c w p → t ≡ truthy s → t ≡ true →
      (q ≡ input c g 2) × (q < 131072) → r ≡ look c w q → r ≡ compute c w g
  unfolding compute if◌then◌otherwise◌
  select_b p q s t e ep es et h eq er = rw (← ek, e, ← ep.0, ← es, ← et, h, ← eq.0, er)

  pub select_a :
      (p q : ℕ) (s : Value) (t : Bool) → k ≡ 1 → (p ≡ input c g 0) × (p < 131072) → s ≡ look c w p → t ≡ truthy s → t ≡ false →
      (q ≡ input c g 1) × (q < 131072) → r ≡ look c w q → r ≡ compute c w g
  unfolding compute if◌then◌otherwise◌
  select_a p q s t e ep es et h eq er = rw (← ek, e, ← ep.0, ← es, ← et, h, ← eq.0, er)

  pub routed : (p : ℕ) → k ≡ 2 → (p ≡ input c g 0) × (p < 131072) → r ≡ look c w p → r ≡ compute c w g
  unfolding compute if◌then◌otherwise◌
  routed p e ep er = rw (← ek, e, ← ep.0, er)

module _ (c : Circuit) (bs : List ℕ) (g k x : ℕ) (ek : k ≡ kind_of_gate c g) where
  pub delta : k ≡ 3 → x ≡ get_or (words bs) 1 0 → Float x ≡ compute c (values c bs).wires g
  unfolding compute if◌then◌otherwise◌ values
  delta e ex = rw (← ek, e, ex ∙ cut_peek (words bs) 1 0 (omega arith))

  pub uptime : (k ≡ 1 → ⊥) → (k ≡ 2 → ⊥) → (k ≡ 3 → ⊥) → x ≡ get_or (words bs) 2 0 → Float x ≡ compute c (values c bs).wires g
  unfolding compute if◌then◌otherwise◌ values
  uptime f₁ f₂ f₃ ex = rw (← ek, ne_eqb k 1 f₁, ne_eqb k 2 f₂, ne_eqb k 3 f₃, ex ∙ cut_peek (words bs) 2 0 (omega arith))

pub recomputed :
    (c : Circuit) (v v₁ v₂ : Values) (g o : ℕ) (x : Value) → x ≡ compute c v.wires g → (o ≡ output c g 0) × (o < 131072) →
    v₁ ≡ with_wires v (show v.wires o x) → v₂ ≡ with_wires v₁ (clean v₁.wires g) → v₂ ≡ with_wires v (recompute c v.wires g)
unfolding recompute
recomputed c v v₁ v₂ g o x ex eo e₁ e₂ = rw (e₂, e₁, ex, eo.0)

-- ---- refreshing

each_place : {A : Type 0} (p : A → Bool) (d : A) (xs : List A) (i : ℕ) → all p xs ≡ true → p d ≡ true → p (get_or xs i d) ≡ true
unfolding all
each_place p d [] i h e = e
each_place p d (x ∷ xs) zero h e = (both_true (p x) (all p xs) h).0
each_place p d (x ∷ xs) (suc i) h e = each_place p d xs i (both_true (p x) (all p xs) h).1 e

-- no kind has more than ten inputs
pub few_inputs : (k : ℕ) → length (kind_at k).ins ≤ 10
unfolding kinds_opened base_opened
few_inputs zero = omega arith
few_inputs (suc k) = leb-true _ _ (each_place (λ (x : Kind). leb (length x.ins) 10) (record { ins = []; outs = [] }) table k refl refl)

pub counted_inputs : (k n g : ℕ) (c : Circuit) → k ≡ kind_of_gate c g → n ≡ length (kind_at k).ins → (n ≡ length (kind_at (kind_of_gate c g)).ins) × (n ≤ 10)
counted_inputs k n g c ek en = (en ∙ ap (λ (x : ℕ). length (kind_at x).ins) ek, omega (arith, few_inputs k))

-- a fresh gate stays as it is, however deep
refresh_fresh : (c : Circuit) (n : ℕ) (w : Wires) (g : ℕ) → is_dirty w g ≡ false → refresh_to c n w g ≡ w
unfolding refresh_to
refresh_fresh c zero w g e = refl
refresh_fresh c (suc n) w g e = rw (e, refresh_to)

module _ (c : Circuit) (f : Wires → ℕ → Wires) (v : Values) (i : ℕ) (s : Option ℕ) (e : option_of s ≡ source c i) where
  pub behind_none : s ≡ None → v ≡ with_wires v (behind c f v.wires i)
  unfolding behind
  behind_none es = let q : source c i ≡ none = sym e ∙ ap option_of es in rw (q, behind)

  pub behind_output :
      (v₁ : Values) (o g : ℕ) → s ≡ Some o → g ≡ gate_at_output c o → v₁ ≡ with_wires v (f v.wires g) → v₁ ≡ with_wires v (behind c f v.wires i)
  unfolding behind
  behind_output v₁ o g es eg ev = let q : source c i ≡ some o = sym e ∙ ap option_of es in rw (q, behind, ← eg) ev

pub behind_fresh :
    (c : Circuit) (deep : ℕ) (v : Values) (i : ℕ) (s : Option ℕ) (o g : ℕ) (r : Bool) → option_of s ≡ source c i → s ≡ Some o → g ≡ gate_at_output c o →
    r ≡ is_dirty v.wires g → r ≡ false → v ≡ with_wires v (behind c (refresh_to c deep) v.wires i)
behind_fresh c deep v i s o g r e es eg er h =
    behind_output c (refresh_to c deep) v i s e v o g es eg (ap (with_wires v) (sym (refresh_fresh c deep v.wires g (sym er ∙ h))))

module _ (c : Circuit) (v : Values) (g : ℕ) where
  pub refresh_none : (deep : ℕ) → deep ≤ 0 → v ≡ with_wires v (refresh_to c deep v.wires g)
  unfolding refresh_to
  refresh_none zero h = refl
  refresh_none (suc deep) h = absurd (omega arith)

  pub refresh_clean : (deep : ℕ) (r : Bool) → 0 < deep → r ≡ is_dirty v.wires g → r ≡ false → v ≡ with_wires v (refresh_to c deep v.wires g)
  unfolding refresh_to
  refresh_clean zero r h e f = absurd (omega arith)
  refresh_clean (suc deep) r h e f = let q : is_dirty v.wires g ≡ false = sym e ∙ f in rw (q, refresh_to)

  pub refresh_stale :
      (deep a n : ℕ) (r : Bool) (v₁ v₂ : Values) → 0 < deep → r ≡ is_dirty v.wires g → r ≡ true → (a ≡ input c g 0) × (a < 131072) →
      (n ≡ length (kind_at (kind_of_gate c g)).ins) × (n ≤ 10) → v₁ ≡ with_wires v (each (behind c (refresh_to c (deep - 1))) v.wires (from a n)) →
      v₂ ≡ with_wires v₁ (recompute c v₁.wires g) → v₂ ≡ with_wires v (refresh_to c deep v.wires g)
  unfolding refresh_to inputs_of
  refresh_stale zero a n r v₁ v₂ h e t ea en e₁ e₂ = absurd (omega arith)
  refresh_stale (suc deep) a n r v₁ v₂ h e t ea en e₁ e₂ =
      let q : is_dirty v.wires g ≡ true = sym e ∙ t in
      let p : suc deep - 1 ≡ deep = omega arith in
      rw (q, refresh_to, ← ea.0, ← en.0) (e₂ ∙ ap (λ (u : Values). with_wires u (recompute c u.wires g)) (rw p at e₁))

pub refreshed :
    (c : Circuit) (v v₁ : Values) (g n : ℕ) → (n ≡ length c.kinds) × (n ≤ 64) → v₁ ≡ with_wires v (refresh_to c n v.wires g) →
    v₁ ≡ with_wires v (refresh c v.wires g)
unfolding refresh
refreshed c v v₁ g n en e = e ∙ ap (λ (k : ℕ). with_wires v (refresh_to c k v.wires g)) en.0

pub readied :
    (c : Circuit) (v v₁ : Values) (i n : ℕ) → (n ≡ length c.kinds) × (n ≤ 64) → v₁ ≡ with_wires v (behind c (refresh_to c n) v.wires i) →
    v₁ ≡ with_wires v (ready c v.wires i)
unfolding ready refresh
readied c v v₁ i n en e = e ∙ ap (λ (k : ℕ). with_wires v (behind c (refresh_to c k) v.wires i)) en.0

-- ---- every stale gate

digits_fewer : (k n d i : ℕ) → k ≤ n → get_or (digits n d) i true ≡ false → get_or (digits k d) i false ≡ false
unfolding digits
digits_fewer zero n d i h e = refl
digits_fewer (suc k) zero d i h e = absurd (omega arith)
digits_fewer (suc k) (suc n) d zero h e = e
digits_fewer (suc k) (suc n) d (suc i) h e = digits_fewer k n (d / 2) i (omega arith) e

unmarked : (bs : List Bool) (g h : ℕ) → get_or bs h false ≡ false → get_or (set bs g false) h false ≡ false
unmarked [] g h e = refl
unmarked (b ∷ bs) zero zero e = refl
unmarked (b ∷ bs) zero (suc h) e = e
unmarked (b ∷ bs) (suc g) zero e = e
unmarked (b ∷ bs) (suc g) (suc h) e = unmarked bs g h e

module _ (c : Circuit) where
  -- what is fresh in w is fresh in v
  abbrev AsFresh : Wires → Wires → Type 0
  AsFresh w v = (g : ℕ) → is_dirty w g ≡ false → is_dirty v g ≡ false

  recompute_fresh : (w v : Wires) (g : ℕ) → AsFresh w v → AsFresh w (recompute c v g)
  unfolding recompute show clean outs≔ dirty≔ is_dirty
  recompute_fresh w v g p h e = unmarked v.dirty g h (p h e)

  refresh_by_marks : (w : Wires) (d : ℕ) → length c.kinds ≤ 64 → digits (length c.kinds) d ≡ w.dirty → each (refresh c) w (places 0 (digits 64 d)) ≡ refresh_all c w
  unfolding refresh_all refresh gates
  refresh_by_marks w d l e =
      each_by_marks (AsFresh w) (refresh c) (refresh_keeps c (AsFresh w) (λ _. Unit {0}) (λ _ _ _ _. tt) (λ v g _. recompute_fresh w v g)) (length c.kinds) (digits 64 d)
      (omega (arith, digits_length 64 d)) (λ v g h p. refresh_fresh c (length c.kinds) v g (p g (past g h)))
      (λ v g h p. refresh_fresh c (length c.kinds) v g (p g (other g h))) w (λ g q. q)
    where
      other : (g : ℕ) → get_or (digits 64 d) g true ≡ false → is_dirty w g ≡ false
      other g h = unfold is_dirty in (ap (λ (bs : List Bool). get_or bs g false) (sym e) ∙ digits_fewer (length c.kinds) 64 d g l h)

      past : (g : ℕ) → length c.kinds ≤ g → is_dirty w g ≡ false
      past g h = unfold is_dirty in (ap (λ (bs : List Bool). get_or bs g false) (sym e) ∙ get_or-eq_default (digits (length c.kinds) d) false {n = g} (omega (arith, digits_length (length c.kinds) d)))

pub refresh_first :
    (l bs : List ℕ) (d : ℕ) → d ≡ get_or (words bs) 3 0 →
    each (step (refresh (net l))) (values (net l) bs) (places 0 (digits 64 d)) ≡ with_wires (values (net l) bs) (refresh_all (net l) (values (net l) bs).wires)
refresh_first l bs d e =
    each_step (refresh (net l)) (values (net l) bs) (places 0 (digits 64 d))
    ∙ ap (with_wires (values (net l) bs)) (refresh_by_marks (net l) (values (net l) bs).wires d (omega (arith, gates_counted l (min (cell l 0) 64) refl)) (the_dirty (net l) bs d e))
