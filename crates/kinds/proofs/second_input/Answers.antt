use Prim.Native.Nat.{ℕ, zero-le}
use mathlib.Core.Path.{refl}
use mathlib.Core.List.{List, [], ◌∷◌}
use lib.ListN.{get_or}
use Rattle.model.specs.Base.{base_opened}
use Rattle.model.specs.Kinds.{Kind, In, value, kinds_opened}
use Rattle.kinds.specs.Pins.{in_of}
use Rattle.kinds.proofs.Laws.{keyed, ranged, last, beside}
use Rattle.kinds.proofs.second_input.Goals as goal

-- `kinds::second_input` meets its contract: each arm gives what the table has there. Assumes nothing.

-- the table's entry
abbrev entry : Kind → In
entry = λ k. get_or k.ins 1 value

-- the keys of the arms, the last arm's first
abbrev others : List (List ℕ)
others = (15 ∷ 23 ∷ []) ∷ []

pub returns-in-15 : goal.returns-in-15
unfolding kinds_opened base_opened in_of
returns-in-15 c = keyed entry _ (15 ∷ 23 ∷ []) _ c.in-15.is refl

pub returns-in-10-to-11 : goal.returns-in-10-to-11
unfolding kinds_opened base_opened in_of beside
returns-in-10-to-11 c = ranged entry _ others _ _ _ c.in-10-to-11.in_default-own.rest c.in-10-to-11.if-kind-lt10-own.false c.in-10-to-11.if-kind-lt12-own.true refl

pub returns-in-12-to-13 : goal.returns-in-12-to-13
unfolding kinds_opened base_opened in_of beside
returns-in-12-to-13 c = ranged entry _ others _ _ _ c.in-12-to-13.in_default-own.rest c.in-12-to-13.if-kind-lt12-own.false c.in-12-to-13.if-kind-lt14-own.true refl

pub returns-in-18-to-19 : goal.returns-in-18-to-19
unfolding kinds_opened base_opened in_of beside
returns-in-18-to-19 c = ranged entry _ others _ _ _ c.in-18-to-19.in_default-own.rest c.in-18-to-19.if-kind-lt18-own.false c.in-18-to-19.if-kind-lt20-own.true refl

pub returns-in-24-to-25 : goal.returns-in-24-to-25
unfolding kinds_opened base_opened in_of beside
returns-in-24-to-25 c = ranged entry _ others _ _ _ c.in-24-to-25.in_default-own.rest c.in-24-to-25.if-kind-lt23-own.false c.in-24-to-25.if-kind-lt26-own.true refl

pub returns-in_default : goal.returns-in_default
unfolding kinds_opened base_opened in_of beside
returns-in_default c = ranged entry _ others _ _ _ c.in_default.in_default-own.rest zero-le c.in_default.if-kind-lt10-own.true refl

pub returns-in_default-2 : goal.returns-in_default-2
unfolding kinds_opened base_opened in_of beside
returns-in_default-2 c = ranged entry _ others _ _ _ c.in_default.in_default-own.rest c.in_default.if-kind-lt14-own.false c.in_default.if-kind-lt18-own.true refl

pub returns-in_default-3 : goal.returns-in_default-3
unfolding kinds_opened base_opened in_of beside
returns-in_default-3 c = ranged entry _ others _ _ _ c.in_default.in_default-own.rest c.in_default.if-kind-lt20-own.false c.in_default.if-kind-lt23-own.true refl

pub returns-in_default-4 : goal.returns-in_default-4
unfolding kinds_opened base_opened in_of beside
returns-in_default-4 c = last entry _ others _ _ c.in_default.in_default-own.rest c.in_default.if-kind-lt26-own.false refl refl
