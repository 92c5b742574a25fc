-- A `match` on a pin or on an output whose arms give a Bool: that each arm gives what a definition says is one computed test over all cases.
use Prim.Native.Nat.{ℕ, zero, suc, ◌<◌}
use mathlib.Core.Path.{◌≡◌, refl, sym, ap, ◌∙◌}
use mathlib.Core.Bool.{Bool, true, false, not, ◌||◌, beq}
use mathlib.Core.List.{List, [], ◌∷◌}
use native.Mathlib.Omega.{arith}
use denote.Enum.Declared.{tag_of}
use lib.ListN.{length, get_or}
use mir.Val.{has_key}
use types.Run.{OneOf, miss}
use Rattle.model.specs.Base.{all}
use Rattle.model.proofs.Lists.{both_true}
use Rattle.kinds.specs.declared.Pin.{Pin}
use Rattle.kinds.specs.declared.Pin.TheVariants.{Exec, ExecOnly, Value, Watched, Route, Anything, Ticks, Seconds, Variable, Channel, Loop}
use Rattle.kinds.specs.declared.Out.{Out}
use Rattle.kinds.specs.declared.Out.TheVariants.{Fires, Shows, Passes}
use Rattle.kinds.specs.contracts.Pin.{the_type as Pins}
use Rattle.kinds.specs.contracts.Out.{the_type as Outs}

all_at : {A : Type 0} (q : A → Bool) (xs : List A) (i : ℕ) (d : A) → all q xs ≡ true → i < length xs → q (get_or xs i d) ≡ true
unfolding all
all_at q [] i d h l = absurd (omega arith)
all_at q (x ∷ xs) zero d h l = (both_true (q x) (all q xs) h).0
all_at q (x ∷ xs) (suc i) d h l = all_at q xs i d (both_true (q x) (all q xs) h).1 (omega arith)

-- The cases of a type with their numbers, and an arm for those whose numbers are `keys`, which gives b: f gives b there too.
module _ {A : Type 0} (tag : A → ℕ) (cases : List A) (d : A) (f : A → Bool) (b : Bool) (keys : List ℕ) where
  -- the test, of one case
  unfoldable pub agrees : A → Bool
  agrees a = not (has_key keys (tag a)) || beq b (f a)

  arm : (a : A) → agrees a ≡ true → OneOf keys (tag a) → b ≡ f a
  unfolding agrees
  arm a e k = go (has_key keys (tag a)) refl e
    where
      same : (x y : Bool) → beq x y ≡ true → x ≡ y
      same true true q = refl
      same true false q = sym q
      same false true q = q
      same false false q = refl

      go : (h : Bool) → has_key keys (tag a) ≡ h → (not h || beq b (f a)) ≡ true → b ≡ f a
      go true q r = same b (f a) r
      go false q r = absurd (miss keys (tag a) (rw q tt) k)

  pub arm_gives : ((a : A) → (tag a < length cases) × (get_or cases (tag a) d ≡ a)) → all agrees cases ≡ true → (a : A) → OneOf keys (tag a) → b ≡ f a
  arm_gives found t a k = arm a (ap agrees (sym (found a).1) ∙ all_at agrees cases (tag a) d t (found a).0) k

-- ---- pins

abbrev pub pins : List Pin
pins = Exec ∷ ExecOnly ∷ Value ∷ Watched ∷ Route ∷ Anything ∷ Ticks ∷ Seconds ∷ Variable ∷ Channel ∷ Loop ∷ []

pin_found : (p : Pin) → (tag_of Pins p < length pins) × (get_or pins (tag_of Pins p) Exec ≡ p)
pin_found Exec = (omega arith, refl)
pin_found ExecOnly = (omega arith, refl)
pin_found Value = (omega arith, refl)
pin_found Watched = (omega arith, refl)
pin_found Route = (omega arith, refl)
pin_found Anything = (omega arith, refl)
pin_found Ticks = (omega arith, refl)
pin_found Seconds = (omega arith, refl)
pin_found Variable = (omega arith, refl)
pin_found Channel = (omega arith, refl)
pin_found Loop = (omega arith, refl)

pub pin_is : (k : ℕ) (p : Pin) → tag_of Pins p ≡ k → p ≡ get_or pins k Exec
pin_is k p e = sym (pin_found p).1 ∙ ap (λ n. get_or pins n Exec) e

pub pin_arm : (f : Pin → Bool) (b : Bool) (keys : List ℕ) → all (agrees (tag_of Pins) pins Exec f b keys) pins ≡ true → (p : Pin) → OneOf keys (tag_of Pins p) → b ≡ f p
pin_arm f b keys t = arm_gives (tag_of Pins) pins Exec f b keys pin_found t

-- ---- outputs

abbrev pub outs : List Out
outs = Fires ∷ Shows ∷ Passes ∷ []

out_found : (o : Out) → (tag_of Outs o < length outs) × (get_or outs (tag_of Outs o) Fires ≡ o)
out_found Fires = (omega arith, refl)
out_found Shows = (omega arith, refl)
out_found Passes = (omega arith, refl)

pub out_arm : (f : Out → Bool) (b : Bool) (keys : List ℕ) → all (agrees (tag_of Outs) outs Fires f b keys) outs ≡ true → (o : Out) → OneOf keys (tag_of Outs o) → b ≡ f o
out_arm f b keys t = arm_gives (tag_of Outs) outs Fires f b keys out_found t
