use Prim.Native.Nat.{ℕ, zero-le}
use mathlib.Core.Path.{refl}
use mathlib.Core.List.{List, [], ◌∷◌}
use lib.ListN.{get_or}
use Rattle.model.specs.Base.{base_opened}
use Rattle.model.specs.Kinds.{Kind, In, value, kinds_opened}
use Rattle.kinds.specs.Pins.{in_of}
use Rattle.kinds.proofs.Laws.{keyed, ranged, last, beside}
use Rattle.kinds.proofs.first_input.Goals as goal

-- `kinds::first_input` meets its contract: each arm gives what the table has there. Assumes nothing.

-- the table's entry
abbrev entry : Kind → In
entry = λ k. get_or k.ins 0 value

-- the keys of the arms, the last arm's first
abbrev others : List (List ℕ)
others = (30 ∷ []) ∷ (29 ∷ 31 ∷ []) ∷ (11 ∷ 13 ∷ []) ∷ (12 ∷ []) ∷ (5 ∷ []) ∷ (2 ∷ []) ∷ []

pub returns-in-2 : goal.returns-in-2
unfolding kinds_opened base_opened in_of
returns-in-2 c = keyed entry _ (2 ∷ []) _ c.in-2.is refl

pub returns-in-5 : goal.returns-in-5
unfolding kinds_opened base_opened in_of
returns-in-5 c = keyed entry _ (5 ∷ []) _ c.in-5.is refl

pub returns-in-11 : goal.returns-in-11
unfolding kinds_opened base_opened in_of
returns-in-11 c = keyed entry _ (11 ∷ 13 ∷ []) _ c.in-11.is refl

pub returns-in-30 : goal.returns-in-30
unfolding kinds_opened base_opened in_of
returns-in-30 c = keyed entry _ (30 ∷ []) _ c.in-30.is refl

pub returns-in-26-to-27 : goal.returns-in-26-to-27
unfolding kinds_opened base_opened in_of beside
returns-in-26-to-27 c = ranged entry _ others _ _ _ c.in-26-to-27.in_default-own.rest c.in-26-to-27.if-kind-lt26-own.false c.in-26-to-27.if-kind-lt28-own.true refl

pub returns-in_default : goal.returns-in_default
unfolding kinds_opened base_opened in_of beside
returns-in_default c = ranged entry _ others _ _ _ c.in_default.in_default-own.rest zero-le c.in_default.if-kind-lt5-own.true refl

pub returns-in_default-2 : goal.returns-in_default-2
unfolding kinds_opened base_opened in_of beside
returns-in_default-2 c = ranged entry _ others _ _ _ c.in_default.in_default-own.rest c.in_default.if-kind-lt11-own.false c.in_default.if-kind-lt15-own.true refl

pub returns-in_default-3 : goal.returns-in_default-3
unfolding kinds_opened base_opened in_of beside
returns-in_default-3 c = last entry _ others _ _ c.in_default.in_default-own.rest c.in_default.if-kind-lt28-own.false refl refl

pub returns-in-15-to-25 : goal.returns-in-15-to-25
unfolding kinds_opened base_opened in_of
returns-in-15-to-25 c = keyed entry _ (29 ∷ 31 ∷ []) _ c.in-15-to-25.in-15-to-25-own.keys5 refl

pub returns-in-15-to-25-2 : goal.returns-in-15-to-25-2
unfolding kinds_opened base_opened in_of beside
returns-in-15-to-25-2 c = ranged entry _ others _ _ _ c.in-15-to-25.in_default-own.rest c.in-15-to-25.if-kind-lt15-own.false c.in-15-to-25.if-kind-lt26-own.true refl

pub returns-in-6-to-10 : goal.returns-in-6-to-10
unfolding kinds_opened base_opened in_of
returns-in-6-to-10 c = keyed entry _ (12 ∷ []) _ c.in-6-to-10.in-6-to-10-own.keys3 refl

pub returns-in-6-to-10-2 : goal.returns-in-6-to-10-2
unfolding kinds_opened base_opened in_of beside
returns-in-6-to-10-2 c = ranged entry _ others _ _ _ c.in-6-to-10.in_default-own.rest c.in-6-to-10.if-kind-lt5-own.false c.in-6-to-10.if-kind-lt11-own.true refl
