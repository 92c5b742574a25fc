-- The gates and forms of units: one law for each way out of the small functions, and the test of a row of units.
use mathlib.Core.Path.{◌≡◌, refl, sym, ap, ◌∙◌}
use mathlib.Core.Bool.{Bool, true, false, ◌&&◌}
use mathlib.Core.List.{List, [], ◌∷◌}
use mathlib.Core.Option.{none, some}
use Prim.Native.Nat.{ℕ, ◌+◌, ◌-◌, ◌≤◌, ◌<◌}
use native.Mathlib.Omega.{arith}
use lib.Dec.{leb, eqb}
use lib.ListN.{length, get_or}
use borrow.Author.Tests.{eq-eqb, ne_eqb, le-leb, lt-leb, lt-ltb, le-ltb}
use Rattle.model.specs.Base.{if◌then◌otherwise◌, all, both}
use Rattle.model.specs.Kinds.{In, Watch, never, if_driven, always, value, kind_at, ChangeDetector, EdgeExec, BufferTicksExec, BufferSecondsExec, QueueInSeconds, WorldEvent, receiving}
use Rattle.model.specs.Circuit.{Circuit, part, has_source, source, input, kind_of_gate}
use Rattle.model.specs.State.{form-Fire, form-Event, form-World, form_pin, form_output}
use Rattle.model.specs.Record.{listed, units_at}
use Rattle.model.specs.Questions.{within, yes_all}
use Rattle.kinds.specs.Pins.{in_of}
use Rattle.kinds.specs.declared.Pin.{Pin}
use Rattle.std.specs.Prelude.{Option, Some, None, is_some}
use Rattle.words.specs.Options.{option_of}
use Rattle.records.specs.Whole.{firing, driven, can_have, good_unit}

-- ---- kinds

pub has_fire : (k : ℕ) → k ≡ ChangeDetector → true ≡ firing k
unfolding firing
has_fire k h = rw (eq-eqb k ChangeDetector h)

module _ (k : ℕ) (n : k ≡ ChangeDetector → ⊥) where
  pub has_fire_too : k ≡ BufferTicksExec → true ≡ firing k
  unfolding firing
  has_fire_too h = rw (ne_eqb k ChangeDetector n, eq-eqb k BufferTicksExec h)

  pub fires_from : (k ≡ BufferTicksExec → ⊥) → BufferSecondsExec ≤ k → leb k QueueInSeconds ≡ firing k
  unfolding firing within
  fires_from m h = rw (ne_eqb k ChangeDetector n, ne_eqb k BufferTicksExec m, le-leb BufferSecondsExec k h)

  pub no_fire : (k ≡ BufferTicksExec → ⊥) → k < BufferSecondsExec → leb BufferSecondsExec k ≡ firing k
  unfolding firing within
  no_fire m h = rw (ne_eqb k ChangeDetector n, ne_eqb k BufferTicksExec m, lt-leb BufferSecondsExec k h)

-- ---- sources

pub source_known : (c : Circuit) (i : ℕ) (r : Option ℕ) (b : Bool) → option_of r ≡ source c i → b ≡ is_some r → b ≡ has_source (source c i)
unfolding has_source
source_known c i r b e h = h ∙ go r ∙ ap has_source e
  where
    go : (x : Option ℕ) → is_some x ≡ has_source (option_of x)
    go (Some o) = refl
    go None = refl

-- whether an input is an E
unfoldable pub is_e : In → Bool
is_e p = elim p.watch [ never ↦ false | if_driven ↦ true | always ↦ false ]

driven_is : (c : Circuit) (g p : ℕ) → driven c g p ≡ (is_e (get_or (kind_at (kind_of_gate c g)).ins p value) && has_source (source c (input c g p)))
unfolding driven is_e
driven_is c g p = go (has_source (source c (input c g p))) (get_or (kind_at (kind_of_gate c g)).ins p value).watch
  where
    go : (b : Bool) (w : Watch) → (elim w [ never ↦ false | if_driven ↦ b | always ↦ false ]) ≡ ((elim w [ never ↦ false | if_driven ↦ true | always ↦ false ]) && b)
    go b never = refl
    go b if_driven = refl
    go b always = refl

module _ (c : Circuit) (g p k : ℕ) (q : Pin) (t : Bool) (ek : k ≡ kind_of_gate c g) (eq : in_of q ≡ get_or (kind_at k).ins p value) (et : t ≡ is_e (in_of q)) where
  -- by what the pin is
  by_pin : driven c g p ≡ (t && has_source (source c (input c g p)))
  by_pin =
      let a : get_or (kind_at (kind_of_gate c g)).ins p value ≡ in_of q = ap (λ (x : ℕ). get_or (kind_at x).ins p value) (sym ek) ∙ sym eq in
      let b : is_e (get_or (kind_at (kind_of_gate c g)).ins p value) ≡ t = ap is_e a ∙ sym et in
      driven_is c g p ∙ ap (λ (x : Bool). x && has_source (source c (input c g p))) b

  pub pin_driven : t ≡ true → (i : ℕ) (b : Bool) → i ≡ input c g p → b ≡ has_source (source c i) → b ≡ driven c g p
  pin_driven h i b ei eb = eb ∙ ap (λ (x : ℕ). has_source (source c x)) ei ∙ sym (by_pin ∙ rw h)

  pub pin_other : t ≡ false → false ≡ driven c g p
  pin_other h = sym (by_pin ∙ rw h)

-- ---- forms

module _ (c : Circuit) (g f k : ℕ) (ek : k ≡ kind_of_gate c g) where
  pub fire_form : (t : Bool) → f ≡ form-Fire → t ≡ firing k → t ≡ can_have c g f
  unfolding can_have if◌then◌otherwise◌
  fire_form t h e = rw (eq-eqb f form-Fire h) (e ∙ ap firing ek)

  module _ (n : f ≡ form-Fire → ⊥) where
    pub event_form : (t : Bool) → f ≡ form-Event → t ≡ receiving k → t ≡ can_have c g f
    unfolding can_have if◌then◌otherwise◌
    event_form t h e = rw (ne_eqb f form-Fire n, eq-eqb f form-Event h) (e ∙ ap receiving ek)

    pub world_form : (f ≡ form-Event → ⊥) → f ≡ form-World → eqb k WorldEvent ≡ can_have c g f
    unfolding can_have if◌then◌otherwise◌
    world_form m h = rw (ne_eqb f form-Fire n, ne_eqb f form-Event m, eq-eqb f form-World h) (ap (λ (x : ℕ). eqb x WorldEvent) ek)

    module _ (m : f ≡ form-Event → ⊥) (l : f ≡ form-World → ⊥) where
      pub no_form : f < form_pin → false ≡ can_have c g f
      unfolding can_have if◌then◌otherwise◌
      no_form h = rw (ne_eqb f form-Fire n, ne_eqb f form-Event m, ne_eqb f form-World l, lt-ltb f form_pin h)

      pub pin_form : (t : Bool) → form_pin ≤ f → f < form_output → t ≡ driven c g (f - form_pin) → t ≡ can_have c g f
      unfolding can_have if◌then◌otherwise◌
      pin_form t a b e = rw (ne_eqb f form-Fire n, ne_eqb f form-Event m, ne_eqb f form-World l, le-ltb f form_pin a, lt-ltb f form_output b) e

      pub output_form : form_pin ≤ f → form_output ≤ f → f < form_output + 2 → eqb k EdgeExec ≡ can_have c g f
      unfolding can_have if◌then◌otherwise◌
      output_form a b d = rw (ne_eqb f form-Fire n, ne_eqb f form-Event m, ne_eqb f form-World l, le-ltb f form_pin a, le-ltb f form_output b, lt-ltb f (form_output + 2) d) (ap (λ (x : ℕ). eqb x EdgeExec) ek)

      pub past_forms : form_pin ≤ f → form_output ≤ f → form_output + 2 ≤ f → false ≡ can_have c g f
      unfolding can_have if◌then◌otherwise◌
      past_forms a b d = rw (ne_eqb f form-Fire n, ne_eqb f form-Event m, ne_eqb f form-World l, le-ltb f form_pin a, le-ltb f form_output b, le-ltb f (form_output + 2) d)

-- ---- units

module _ (c : Circuit) (g f n : ℕ) (e : n ≡ length c.kinds) where
  pub no_gate : n ≤ g → false ≡ good_unit c (listed g f)
  unfolding good_unit
  no_gate h = rw (le-ltb g (length c.kinds) (omega (arith, e, h)))

  pub gate_there : (t : Bool) → g < n → t ≡ can_have c g f → t ≡ good_unit c (listed g f)
  unfolding good_unit
  gate_there t h q = rw (lt-ltb g (length c.kinds) (omega (arith, e, h))) q

-- the test of each unit, as one of two columns
columns : (c : Circuit) (gs fs : List ℕ) → yes_all (both (λ g f. good_unit c (listed g f)) gs fs) ≡ all (good_unit c) (both listed gs fs)
unfolding yes_all all both
columns c [] [] = refl
columns c [] (f ∷ fs) = refl
columns c (g ∷ gs) [] = refl
columns c (g ∷ gs) (f ∷ fs) = ap (λ (b : Bool). good_unit c (listed g f) && b) (columns c gs fs)

pub units_are : (c : Circuit) (ws : List ℕ) (k n : ℕ) → yes_all (both (λ g f. good_unit c (listed g f)) (part ws k n) (part ws (k + n) n)) ≡ all (good_unit c) (units_at ws k n)
unfolding units_at
units_are c ws k n = columns c (part ws k n) (part ws (k + n) n)
