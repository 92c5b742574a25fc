-- What a value on a wire can be: nothing, an Int, a finite Float, a Bool; and how the log has it.
use mathlib.Core.Path.{◌≡◌, refl, sym, subst}
use mathlib.Core.Logic.{◌⊎◌, inl, inr}
use mathlib.Core.Bool.{Bool, true, false, ◌&&◌, ◌||◌, true≢false}
use Prim.Native.Nat.{ℕ, ◌%◌, ◌^◌, ◌<◌}
use native.Mathlib.Nat.{mod-eq_of_lt}
use native.Mathlib.Omega.{arith}
use lib.Dec.{ltb, eqb}
use lib.ListN.{length, get_or}
use Rattle.model.specs.declared.Value.{Value}
use Rattle.model.specs.declared.Value.TheVariants.{Nothing, Int, Float, Bool as Truth}
use Rattle.model.specs.Base.{if◌then◌otherwise◌}
use Rattle.model.specs.Value.{bit, kind_of, content_of, as_float}
use Rattle.model.specs.Kinds.{Out, fires, shows, passes}
use Rattle.model.specs.Circuit.{Circuit}
use Rattle.model.specs.Questions.{within, finite, good_constant, value_output}
use Rattle.records.specs.Whole.{good_output}
use Rattle.promises.proofs.Times.{Time, Length, time_finite, length_finite, of_int_word}

-- An Int may be any number here: it is a word in the log, whatever it is.
abbrev pub Proper : Value → Type 0
Proper Nothing = Unit {0}
Proper (Int b) = Unit {0}
Proper (Float b) = (finite b ≡ true) × (b < 2 ^ 64)
Proper (Truth t) = Unit {0}

pub time_proper : (b : ℕ) → Time b → Proper (Float b)
time_proper b t = (time_finite b t, t.word)

pub length_proper : (b : ℕ) → Length b → Proper (Float b)
length_proper b t = (length_finite b t, t.word)

pub as_float_word : (v : Value) → Proper v → as_float 0 v < 2 ^ 64
unfolding as_float
as_float_word Nothing p = omega arith
as_float_word (Int b) p = of_int_word _
as_float_word (Float b) p = p.1
as_float_word (Truth t) p = of_int_word _

-- ---- in the log

-- a number as eight bytes hold it
abbrev pub as_word : ℕ → ℕ
as_word n = n % 2 ^ 64

-- a value as it is read back
abbrev pub in_words : Value → Value
in_words Nothing = Nothing
in_words (Int b) = Int (as_word b)
in_words (Float b) = Float b
in_words (Truth t) = Truth t

pub kind_in_words : (v : Value) → as_word (kind_of v) ≡ kind_of (in_words v)
unfolding kind_of
kind_in_words Nothing = refl
kind_in_words (Int b) = refl
kind_in_words (Float b) = refl
kind_in_words (Truth t) = refl

pub content_in_words : (v : Value) → Proper v → as_word (content_of v) ≡ content_of (in_words v)
unfolding content_of bit
content_in_words Nothing p = refl
content_in_words (Int b) p = refl
content_in_words (Float b) p = mod-eq_of_lt p.1
content_in_words (Truth true) p = refl
content_in_words (Truth false) p = refl

-- ---- shown

-- what output o may show: an exec output nothing
abbrev pub At : Circuit → ℕ → Value → Type 0
At c o v = (v ≡ Nothing) ⊎ ((value_output c o ≡ true) × Proper v)

pub at_proper : (c : Circuit) (o : ℕ) (v : Value) → At c o v → Proper v
at_proper c o v (inl e) = subst (λ x. Proper x) (sym e) tt
at_proper c o v (inr p) = p.1

-- its kind and content are those of a constant, or 0 0
proper_constant : (v : Value) → Proper v → let u = in_words v in ((eqb (kind_of u) 0 && eqb (content_of u) 0) || good_constant (kind_of u) (content_of u)) ≡ true
unfolding kind_of content_of good_constant if◌then◌otherwise◌ bit within
proper_constant Nothing p = refl
proper_constant (Int b) p = refl
proper_constant (Float b) p = p.0
proper_constant (Truth true) p = refl
proper_constant (Truth false) p = refl

pub at_good : (c : Circuit) (o : ℕ) (v : Value) → At c o v → good_output (get_or c.outputs o fires) (kind_of (in_words v)) (content_of (in_words v)) ≡ true
unfolding good_output kind_of content_of value_output
at_good c o v (inl e) = rw e
at_good c o v (inr p) = go (get_or c.outputs o fires) (ltb o (length c.outputs)) p.0
  where
    -- whether an output shows values
    shown : Out → Bool
    shown x = elim x [ fires ↦ false | shows ↦ true | passes ↦ true ]

    go :
        (x : Out) (b : Bool) → (b && shown x) ≡ true →
        ((eqb (kind_of (in_words v)) 0 && eqb (content_of (in_words v)) 0) || (shown x && good_constant (kind_of (in_words v)) (content_of (in_words v)))) ≡ true
    go shows b e = proper_constant v p.1
    go passes b e = proper_constant v p.1
    go fires true e = absurd (true≢false (sym e))
    go fires false e = absurd (true≢false (sym e))
