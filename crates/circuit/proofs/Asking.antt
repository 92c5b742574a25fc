-- What the small functions of questions 4 and 5 answer: one law for each way out.
use Prim.Native.Nat.{ℕ, ◌/◌, ◌≤◌, ◌<◌}
use mathlib.Core.Path.{◌≡◌, refl, sym, ap, ◌∙◌}
use mathlib.Core.Bool.{Bool, true, false, not, ◌&&◌}
use mathlib.Core.Logic.{◌⊎◌, inl, inr}
use native.Mathlib.Omega.{arith}
use lib.Dec.{ltb}
use lib.ListN.{length, get_or, get_or-eq_default}
use borrow.Author.Tests.{ltb-false, lt-ltb, le-ltb, not-true, not-false}
use Rattle.model.specs.declared.Value.{Value}
use Rattle.model.specs.declared.Value.TheVariants.{Nothing, Int, Float, Bool as Truth}
use Rattle.model.specs.Kinds.{In, value, Out as Output, fires, shows, passes}
use Rattle.model.specs.Circuit.{Circuit}
use Rattle.model.specs.Questions.{value_output, int_such_that, int_or_nothing, float_or_nothing, names_constant, may_call, may_be_called}
use Rattle.model.proofs.Lists.{default_same}

-- a test in the code, `if !t`, where t is what a definition says
pub no : (t x : Bool) → t ≡ x → not t ≡ true → x ≡ false
no t x e h = sym e ∙ not-true t h

pub yes : (t x : Bool) → t ≡ x → not t ≡ false → x ≡ true
yes t x e h = sym e ∙ not-false t h

-- ---- outputs

-- whether an output shows a value
unfoldable pub shows_value : Output → Bool
shows_value o = elim o [ fires ↦ false | shows ↦ true | passes ↦ true ]

-- whether it makes calls
unfoldable pub makes_calls : Output → Bool
makes_calls o = elim o [ fires ↦ true | shows ↦ false | passes ↦ true ]

pub output_shows : (c : Circuit) (o : ℕ) (x : Output) (b : Bool) → x ≡ get_or c.outputs o fires → b ≡ shows_value x → b ≡ value_output c o
unfolding value_output shows_value
output_shows c o x b e eb = go (ltb o (length c.outputs)) refl
  where
    go : (t : Bool) → ltb o (length c.outputs) ≡ t → b ≡ (t && shows_value (get_or c.outputs o fires))
    go true q = eb ∙ ap shows_value e
    go false q = eb ∙ ap shows_value (e ∙ get_or-eq_default c.outputs fires (ltb-false o (length c.outputs) q))

module _ (c : Circuit) (n o : ℕ) (en : n ≡ length c.outputs) where
  pub no_output_calls : n ≤ o → false ≡ may_call c o
  unfolding may_call
  no_output_calls h = rw (le-ltb o (length c.outputs) (omega arith))

  pub output_calls : (x : Output) (b : Bool) → o < n → x ≡ get_or c.outputs o fires → b ≡ makes_calls x → b ≡ may_call c o
  unfolding may_call makes_calls
  output_calls x b h e eb =
      rw (lt-ltb o (length c.outputs) (omega arith)) (eb ∙ ap makes_calls (e ∙ default_same c.outputs o fires shows (omega arith)))

-- ---- the input of a target

pub input_called : (c : Circuit) (t : ℕ) (x : In) (b : Bool) → x ≡ get_or c.pins (t / 2) value → b ≡ x.called → b ≡ may_be_called c t
unfolding may_be_called value
input_called c t x b e eb = go (ltb (t / 2) (length c.pins)) refl
  where
    go : (y : Bool) → ltb (t / 2) (length c.pins) ≡ y → b ≡ (y && (get_or c.pins (t / 2) value).called)
    go true q = eb ∙ ap (λ (y : In). y.called) e
    go false q = eb ∙ ap (λ (y : In). y.called) (e ∙ get_or-eq_default c.pins value (ltb-false (t / 2) (length c.pins) q))

-- ---- a constant

pub constant_named : (c : Circuit) (n k : ℕ) → n ≡ length c.constants → ltb k n ≡ names_constant c k
unfolding names_constant
constant_named c n k e = ap (ltb k) e

-- ---- a setting

-- a value that is no Int is none of those asked for
pub no_int : (p : ℕ → Bool) (v : Value) → ((b : ℕ) → v ≡ Int b → ⊥) → false ≡ int_such_that p v
unfolding int_such_that
no_int p Nothing h = refl
no_int p (Int b) h = absurd (h b refl)
no_int p (Float b) h = refl
no_int p (Truth t) h = refl

pub int_given : (v : Value) → (v ≡ Nothing) ⊎ ((b : ℕ) × (v ≡ Int b)) → true ≡ int_or_nothing v
unfolding int_or_nothing
int_given v (inl e) = rw e
int_given v (inr e) = rw e.1

pub no_int_given : (v : Value) → (v ≡ Nothing → ⊥) → ((b : ℕ) → v ≡ Int b → ⊥) → false ≡ int_or_nothing v
unfolding int_or_nothing
no_int_given Nothing n h = absurd (n refl)
no_int_given (Int b) n h = absurd (h b refl)
no_int_given (Float b) n h = refl
no_int_given (Truth t) n h = refl

pub float_given : (v : Value) → (v ≡ Nothing) ⊎ ((b : ℕ) × (v ≡ Float b)) → true ≡ float_or_nothing v
unfolding float_or_nothing
float_given v (inl e) = rw e
float_given v (inr e) = rw e.1

pub no_float_given : (v : Value) → (v ≡ Nothing → ⊥) → ((b : ℕ) → v ≡ Float b → ⊥) → false ≡ float_or_nothing v
unfolding float_or_nothing
no_float_given Nothing n h = absurd (n refl)
no_float_given (Int b) n h = refl
no_float_given (Float b) n h = absurd (h b refl)
no_float_given (Truth t) n h = refl
