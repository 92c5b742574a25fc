-- Values as two words, and one law for each way through the code.
use Prim.Native.Nat.{ℕ, zero, suc, ◌<◌, ◌%◌}
use native.Mathlib.Omega.{arith}
use mathlib.Core.Path.{◌≡◌, refl, sym, ap, ◌∙◌}
use mathlib.Core.Bool.{Bool, true, false, not}
use borrow.Author.Tests.{ne_eqb, eq-eqb}
use lib.Dec.{leb, eqb}
use lib.IntN.{ℤ, pos}
use lib.Ieee.{round, to_bits, of_int}
use Rattle.words.specs.Words.{signed}
use Rattle.model.specs.declared.Value.{Value}
use Rattle.model.specs.declared.Value.TheVariants.{Nothing, Int, Float, Bool as Truth}
use Rattle.model.specs.Base.{if◌then◌otherwise◌}
use Rattle.model.specs.Value.{truthy, bit, same, eq64, float_of_int, as_int, one_point_zero, kind_of, content_of, value_of}
use Rattle.model.specs.Opening.{enabled}
use Rattle.value.proofs.Floats.{zero_bits, itself_bits}

-- ---- a value and its two words

-- a value's two words make it again
pub made_again : (v : Value) → value_of (kind_of v) (content_of v) ≡ v
unfolding value_of kind_of content_of bit
made_again Nothing = refl
made_again (Int b) = refl
made_again (Float b) = refl
made_again (Truth false) = refl
made_again (Truth true) = refl

-- and two words are those of the value that they make, where they can be a value's: nothing's content is 0, a Bool's 0 or 1
pub taken_apart : (k b : ℕ) → k < 4 → (k ≡ 0 → b ≡ 0) → (k ≡ 3 → b < 2) → (kind_of (value_of k b) ≡ k) × (content_of (value_of k b) ≡ b)
unfolding value_of kind_of content_of bit
taken_apart zero b h f g = (refl, sym (f refl))
taken_apart (suc zero) b h f g = (refl, refl)
taken_apart (suc (suc zero)) b h f g = (refl, refl)
taken_apart (suc (suc (suc zero))) zero h f g = (refl, refl)
taken_apart (suc (suc (suc zero))) (suc zero) h f g = (refl, refl)
taken_apart (suc (suc (suc zero))) (suc (suc b)) h f g = let l : suc (suc b) < 2 = g refl in absurd (omega arith)
taken_apart (suc (suc (suc (suc k)))) b h f g = absurd (omega arith)

-- ---- as_int and as_float

-- of what is neither nothing nor a Float the content is the word of its number
pub other_int : (d z : ℤ) (v : Value) → (v ≡ Nothing → ⊥) → ((b : ℕ) → v ≡ Float b → ⊥) → (x : ℕ) → x ≡ content_of v → z ≡ signed x → z ≡ as_int d v
unfolding as_int content_of bit
other_int d z Nothing h f x ex ez = absurd (h refl)
other_int d z (Int b) h f x ex ez = ez ∙ ap signed ex
other_int d z (Float b) h f x ex ez = absurd (f b refl)
other_int d z (Truth false) h f x ex ez = ez ∙ ap signed ex
other_int d z (Truth true) h f x ex ez = ez ∙ ap signed ex

-- a Bool as a Float: 1.0 or 0.0
pub bit_float : (t b : Bool) → t ≡ b → (if b then one_point_zero otherwise 0) ≡ float_of_int (pos (bit t))
unfolding bit float_of_int if◌then◌otherwise◌ round to_bits of_int
bit_float false b e = rw (← e) refl
bit_float true b e = rw (← e) refl

-- ---- same

-- equal kinds, and then equal contents: a Float's as floats
same_is : (a b : Value)
    → same a b
    ≡ (if eqb (kind_of a) (kind_of b) then if eqb (kind_of a) 2 then eq64 (content_of a) (content_of b) otherwise eqb (content_of a) (content_of b) otherwise false)
unfolding same kind_of content_of bit if◌then◌otherwise◌
same_is Nothing Nothing = refl
same_is Nothing (Int y) = refl
same_is Nothing (Float y) = refl
same_is Nothing (Truth y) = refl
same_is (Int x) Nothing = refl
same_is (Int x) (Int y) = refl
same_is (Int x) (Float y) = refl
same_is (Int x) (Truth y) = refl
same_is (Float x) Nothing = refl
same_is (Float x) (Int y) = refl
same_is (Float x) (Float y) = refl
same_is (Float x) (Truth y) = refl
same_is (Truth x) Nothing = refl
same_is (Truth x) (Int y) = refl
same_is (Truth x) (Float y) = refl
same_is (Truth false) (Truth false) = refl
same_is (Truth false) (Truth true) = refl
same_is (Truth true) (Truth false) = refl
same_is (Truth true) (Truth true) = refl

module _ (a b : Value) (k l : ℕ) (ek : k ≡ kind_of a) (el : l ≡ kind_of b) where
  -- two kinds
  pub of_two_kinds : (k ≡ l → ⊥) → false ≡ same a b
  unfolding if◌then◌otherwise◌
  of_two_kinds h = rw (same_is a b, ← ek, ← el, ne_eqb k l h) refl

  module _ (e : k ≡ l) (x y : ℕ) (ex : x ≡ content_of a) (ey : y ≡ content_of b) where
    -- one kind
    pub of_one_kind : same a b ≡ (if eqb k 2 then eq64 x y otherwise eqb x y)
    unfolding if◌then◌otherwise◌
    of_one_kind = rw (same_is a b, ← ek, ← el, ← e, ← ex, ← ey, eq-eqb k k refl) refl

    -- with one content, and no Float
    pub contents_equal : x ≡ y → (k ≡ 2 → ⊥) → true ≡ same a b
    unfolding if◌then◌otherwise◌
    contents_equal h f = rw (of_one_kind, ne_eqb k 2 f, eq-eqb x y h) refl

    -- Floats of equal bits: no NaN
    pub floats_equal : x ≡ y → k ≡ 2 → leb (x % 9223372036854775808) 9218868437227405312 ≡ same a b
    unfolding if◌then◌otherwise◌
    floats_equal h f = rw (of_one_kind, eq-eqb k 2 f, ← h, itself_bits x) refl

    -- with two contents, and no Float
    pub contents_differ : (x ≡ y → ⊥) → (k ≡ 2 → ⊥) → false ≡ same a b
    unfolding if◌then◌otherwise◌
    contents_differ h f = rw (of_one_kind, ne_eqb k 2 f, ne_eqb x y h) refl

    -- Floats of other bits
    pub floats_compared : (x ≡ y → ⊥) → k ≡ 2 → (r : Bool) → r ≡ eq64 x y → r ≡ same a b
    unfolding if◌then◌otherwise◌
    floats_compared h f r er = rw (of_one_kind, eq-eqb k 2 f) er

-- ---- truthy

-- a Float
pub float_truthy : (v : Value) (b x : ℕ) → v ≡ Float b → x ≡ content_of v → not (eqb (x % 9223372036854775808) 0) ≡ truthy v
unfolding truthy content_of
float_truthy v b x h e = rw (e, h, zero_bits b)

-- what is no Float reads as true where its content is not 0
pub other_truthy : (v : Value) → ((b : ℕ) → v ≡ Float b → ⊥) → (x : ℕ) → x ≡ content_of v → not (eqb x 0) ≡ truthy v
unfolding truthy content_of bit
other_truthy Nothing f x e = rw e
other_truthy (Int b) f x e = rw e
other_truthy (Float b) f x e = absurd (f b refl)
other_truthy (Truth false) f x e = rw e
other_truthy (Truth true) f x e = rw e

-- ---- enabled

-- any value but nothing is enabled as it reads
pub truth_enables : (v : Value) (r : Bool) → (v ≡ Nothing → ⊥) → r ≡ truthy v → r ≡ enabled v
unfolding enabled truthy
truth_enables Nothing r h t = absurd (h refl)
truth_enables (Int b) r h t = t
truth_enables (Float b) r h t = t
truth_enables (Truth b) r h t = t
