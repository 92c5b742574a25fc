-- A unit that a run may begin starts at an E or at an exec output.
use mathlib.Core.Path.{◌≡◌, refl, ap, subst, ◌∙◌}
use mathlib.Core.Logic.{◌⊎◌, inl, inr}
use mathlib.Core.Bool.{Bool, true, false, not, ◌&&◌, ◌||◌}
use mathlib.Core.List.{List, [], ◌∷◌}
use Prim.Native.Nat.{ℕ, zero, suc, ◌-◌, ◌≤◌, ◌<◌}
use native.Mathlib.Nat.{zero-add}
use native.Mathlib.Omega.{arith}
use lib.Dec.{leb, ltb, eqb}
use lib.ListN.{length, get_or}
use borrow.Author.Tests.{eqb-true, ltb-true, ltb-false, le-leb, lt-leb, lt-ltb, le-ltb}
use Rattle.model.specs.Base.{if◌then◌otherwise◌, all, among, from}
use Rattle.model.specs.Kinds.{In, value, Watch, never, if_driven, always, fires, shows, kind_at, receiving, kinds_opened}
use Rattle.model.specs.Circuit.{Circuit, kind_of_gate, input, output, has_source, source}
use Rattle.model.specs.Unit.{fired}
use Rattle.model.specs.Questions.{within}
use Rattle.model.proofs.Lists.{both_true, clash, all_among, default_same, among_from}
use Rattle.model.proofs.Laid.{Laid}
use Rattle.records.specs.Whole.{firing, driven, can_have}
use Rattle.figures.specs.Figures.{is-E, is_exec}

-- ---- the kinds

-- the output that a Fire fires
abbrev fire_output : ℕ → ℕ
fire_output k = if eqb k 15 then 1 otherwise 0

-- output p of a kind is exec
abbrev exec_of : ℕ → ℕ → Bool
exec_of k p = is_exec (get_or (kind_at k).outs p shows)

-- an E, or an input that no value drives
abbrev calm_or-E : In → Bool
calm_or-E p = is-E p || (elim p.watch [ never ↦ true | if_driven ↦ false | always ↦ true ])

-- a test that all kinds pass
by_kind : (t : ℕ → Bool) → all t (from 0 32) ≡ true → (k : ℕ) → k < 32 → t k ≡ true
by_kind t h k l = all_among t (from 0 32) h k (subst (λ (n : ℕ). among n (from 0 32) ≡ true) (zero-add k) (among_from 0 32 k l))

if_so : (a b : Bool) → (not a || b) ≡ true → a ≡ true → b ≡ true
if_so true b h e = h
if_so false b h e = clash e refl

-- by a choice that came out true
chosen : (b : Bool) {x y : Bool} {A : Type 0} → (b ≡ true → x ≡ true → A) → (b ≡ false → y ≡ true → A) → (if b then x otherwise y) ≡ true → A
unfolding if◌then◌otherwise◌
chosen true f g h = f refl h
chosen false f g h = g refl h

either : (a b d : Bool) → (b ≡ true) ⊎ (d ≡ true) → (a || (b || d)) ≡ true
either true b d h = refl
either false true d h = refl
either false false d (inl h) = clash h refl
either false false d (inr h) = h

-- what a unit fires is exec, and an input that a value drives is an E
module _ (k : ℕ) (l : k < 32) where
  of_fire : (firing k || (receiving k || eqb k 28)) ≡ true → exec_of k (fire_output k) ≡ true
  unfolding kinds_opened all from is_exec firing within if◌then◌otherwise◌
  of_fire = if_so (firing k || (receiving k || eqb k 28)) _ (by_kind (λ k. not (firing k || (receiving k || eqb k 28)) || exec_of k (fire_output k)) refl k l)

  of_pin : (p : ℕ) → calm_or-E (get_or (kind_at k).ins p value) ≡ true
  unfolding kinds_opened all from is-E
  of_pin p = each (kind_at k).ins p (by_kind (λ k. all calm_or-E (kind_at k).ins) refl k l)
    where
      each : (ps : List In) (p : ℕ) → all calm_or-E ps ≡ true → calm_or-E (get_or ps p value) ≡ true
      each [] p h = refl
      each (x ∷ ps) zero h = (both_true (calm_or-E x) _ h).0
      each (x ∷ ps) (suc p) h = each ps p (both_true (calm_or-E x) _ h).1

of_edge : (p : ℕ) → p < 2 → exec_of 9 p ≡ true
unfolding kinds_opened is_exec
of_edge zero l = refl
of_edge (suc zero) l = refl
of_edge (suc (suc p)) l = absurd (omega arith)

-- ---- of a circuit

-- what passes a test that the default does not pass is one of the list
pub inside : {A : Type 0} (t : A → Bool) (xs : List A) (i : ℕ) (d : A) → t d ≡ false → t (get_or xs i d) ≡ true → i < length xs
inside t [] i d z h = clash h z
inside t (x ∷ xs) zero d z h = omega arith
inside t (x ∷ xs) (suc i) d z h = omega (arith, inside t xs i d z h)

pub defaults : (is_exec shows ≡ false) × (is-E value ≡ false)
unfolding is_exec is-E value
defaults = (refl, refl)

-- whether a form enters an input
abbrev enters : ℕ → Bool
enters form = leb 16 form && ltb form 32

module _ (c : Circuit) where
  abbrev pub Exec : ℕ → Type 0
  Exec o = is_exec (get_or c.outputs o shows) ≡ true

  abbrev pub E : ℕ → Type 0
  E i = is-E (get_or c.pins i value) ≡ true

  -- a unit in this form enters an E, or fires an exec output
  abbrev pub Start : ℕ → ℕ → Type 0
  Start g form = ((enters form ≡ true) × E (input c g (form - 16))) ⊎ ((enters form ≡ false) × Exec (fired c g form))

module _ (c : Circuit) (lay : Laid c) (known : (g : ℕ) → kind_of_gate c g < 32) where
  -- an output and an input are what their kind says
  exec_at : (g p : ℕ) → exec_of (kind_of_gate c g) p ≡ true → Exec c (output c g p)
  exec_at g p h =
      let os = (kind_at (kind_of_gate c g)).outs in
      let l = inside is_exec os p shows defaults.0 h in
      ap is_exec (default_same c.outputs (output c g p) shows fires (lay.output_in g p l) ∙ lay.out_is g p l ∙ default_same os p fires shows l) ∙ h

  EAt : (g p : ℕ) → driven c g p ≡ true → E c (input c g p)
  unfolding driven
  EAt g p h =
      let ps = (kind_at (kind_of_gate c g)).ins in
      let t = so (is-E (get_or ps p value)) (get_or ps p value).watch (of_pin (kind_of_gate c g) (known g) p) h in
      ap is-E (lay.pin_is g p (inside is-E ps p value defaults.1 t)) ∙ t
    where
      so :
          (b : Bool) (w : Watch) → (b || (elim w as (λ _. Bool) [ never ↦ true | if_driven ↦ false | always ↦ true ])) ≡ true →
          (elim w as (λ _. Bool) [ never ↦ false | if_driven ↦ has_source (source c (input c g p)) | always ↦ false ]) ≡ true → b ≡ true
      so true w h k = refl
      so false never h k = k
      so false if_driven h k = h
      so false always h k = k

  -- ---- a unit, by its form

  -- a Fire, an Event or a World
  fires_low : (g form : ℕ) → form < 16 → (firing (kind_of_gate c g) || (receiving (kind_of_gate c g) || eqb (kind_of_gate c g) 28)) ≡ true → Start c g form
  unfolding fired if◌then◌otherwise◌
  fires_low g form l h =
      inr (rw (lt-leb 16 form l), rw (lt-leb 32 form (omega (arith, l))) (go (eqb (kind_of_gate c g) 15) (exec_at g (fire_output (kind_of_gate c g)) (of_fire (kind_of_gate c g) (known g) h))))
    where
      go : (b : Bool) → Exec c (output c g (if b then 1 otherwise 0)) → Exec c (if b then output c g 1 otherwise output c g 0)
      go true e = e
      go false e = e

  enters_pin : (g form : ℕ) → 16 ≤ form → form < 32 → driven c g (form - 16) ≡ true → Start c g form
  enters_pin g form l m h = inl (rw (le-leb 16 form l, lt-ltb form 32 m), EAt g (form - 16) h)

  fires_edge : (g form : ℕ) → 32 ≤ form → form < 34 → eqb (kind_of_gate c g) 9 ≡ true → Start c g form
  unfolding fired if◌then◌otherwise◌
  fires_edge g form l m h =
      let e : exec_of (kind_of_gate c g) (form - 32) ≡ true = rw (eqb-true (kind_of_gate c g) 9 h) (of_edge (form - 32) (omega arith)) in
      inr (rw (le-leb 16 form (omega (arith, l)), le-ltb form 32 l), rw (le-leb 32 form l) (exec_at g (form - 32) e))

  pub starts : (g form : ℕ) → can_have c g form ≡ true → Start c g form
  unfolding can_have
  starts g form =
      let k = kind_of_gate c g in
      chosen (eqb form 0) (λ e h. fires_low g form (omega (arith, eqb-true form 0 e)) (rw h)) λ _.
      chosen (eqb form 1) (λ e h. fires_low g form (omega (arith, eqb-true form 1 e)) (either (firing k) (receiving k) (eqb k 28) (inl h))) λ _.
      chosen (eqb form 2) (λ e h. fires_low g form (omega (arith, eqb-true form 2 e)) (either (firing k) (receiving k) (eqb k 28) (inr h))) λ _.
      chosen (ltb form 16) (λ _ h. clash h refl) λ e₁₆.
      chosen (ltb form 32) (λ e h. enters_pin g form (ltb-false form 16 e₁₆) (ltb-true form 32 e) h) λ e₃₂.
      chosen (ltb form 34) (λ e h. fires_edge g form (ltb-false form 32 e₃₂) (ltb-true form 34 e) h) (λ _ h. clash h refl)
