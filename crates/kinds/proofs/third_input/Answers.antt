use Prim.Native.Nat.{ℕ, zero-le}
use mathlib.Core.Path.{refl}
use mathlib.Core.List.{List, [], ◌∷◌}
use lib.ListN.{get_or}
use Rattle.model.specs.Base.{base_opened}
use Rattle.model.specs.Kinds.{Kind, In, value, kinds_opened}
use Rattle.kinds.specs.Pins.{in_of}
use Rattle.kinds.proofs.Laws.{keyed, ranged, last, beside}
use Rattle.kinds.proofs.third_input.Goals as goal

-- `kinds::third_input` meets its contract: each arm gives what the table has there. Assumes nothing.

-- the table's entry
abbrev entry : Kind → In
entry = λ k. get_or k.ins 2 value

-- the keys of the arms, the last arm's first
abbrev others : List (List ℕ)
others = (15 ∷ []) ∷ []

pub returns-in-15 : goal.returns-in-15
unfolding kinds_opened base_opened in_of
returns-in-15 c = keyed entry _ (15 ∷ []) _ c.in-15.is refl

pub returns-in-10-to-11 : goal.returns-in-10-to-11
unfolding kinds_opened base_opened in_of beside
returns-in-10-to-11 c = ranged entry _ others _ _ _ c.in-10-to-11.in_default-own.rest c.in-10-to-11.if-kind-lt10-own.false c.in-10-to-11.if-kind-lt12-own.true refl

pub returns-in-12-to-14 : goal.returns-in-12-to-14
unfolding kinds_opened base_opened in_of beside
returns-in-12-to-14 c = ranged entry _ others _ _ _ c.in-12-to-14.in_default-own.rest c.in-12-to-14.if-kind-lt12-own.false c.in-12-to-14.if-kind-lt15-own.true refl

pub returns-in_default : goal.returns-in_default
unfolding kinds_opened base_opened in_of beside
returns-in_default c = ranged entry _ others _ _ _ c.in_default.in_default-own.rest zero-le c.in_default.if-kind-lt10-own.true refl

pub returns-in_default-2 : goal.returns-in_default-2
unfolding kinds_opened base_opened in_of beside
returns-in_default-2 c = last entry _ others _ _ c.in_default.in_default-own.rest c.in_default.if-kind-lt15-own.false refl refl
