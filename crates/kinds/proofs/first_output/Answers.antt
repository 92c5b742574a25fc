use Prim.Native.Nat.{ℕ, zero-le}
use mathlib.Core.Path.{refl}
use mathlib.Core.List.{List, [], ◌∷◌}
use lib.ListN.{get_or}
use Rattle.model.specs.Base.{base_opened}
use Rattle.model.specs.Kinds.{Kind, Out, fires, kinds_opened}
use Rattle.kinds.specs.Pins.{out_of}
use Rattle.kinds.proofs.Laws.{keyed, ranged, last, beside}
use Rattle.kinds.proofs.first_output.Goals as goal

-- `kinds::first_output` meets its contract: each arm gives what the table has there. Assumes nothing.

-- the table's entry
abbrev entry : Kind → Out
entry = λ k. get_or k.outs 0 fires

-- the keys of the arms, the last arm's first
abbrev others : List (List ℕ)
others = (2 ∷ []) ∷ (1 ∷ 10 ∷ 12 ∷ 15 ∷ []) ∷ []

pub returns-in-2 : goal.returns-in-2
unfolding kinds_opened base_opened out_of
returns-in-2 c = keyed entry _ (2 ∷ []) _ c.in-2.is refl

pub returns-in_default : goal.returns-in_default
unfolding kinds_opened base_opened out_of beside
returns-in_default c = ranged entry _ others _ _ _ c.in_default.in_default-own.rest zero-le c.in_default.if-kind-lt1-own.true refl

pub returns-in_default-2 : goal.returns-in_default-2
unfolding kinds_opened base_opened out_of beside
returns-in_default-2 c = ranged entry _ others _ _ _ c.in_default.in_default-own.rest c.in_default.if-kind-lt6-own.false c.in_default.if-kind-lt7-own.true refl

pub returns-in_default-3 : goal.returns-in_default-3
unfolding kinds_opened base_opened out_of beside
returns-in_default-3 c = last entry _ others _ _ c.in_default.in_default-own.rest c.in_default.if-kind-lt9-own.false refl refl

pub returns-in-1 : goal.returns-in-1
unfolding kinds_opened base_opened out_of
returns-in-1 c = keyed entry _ (1 ∷ 10 ∷ 12 ∷ 15 ∷ []) _ c.in-1.in-1-own.keys1 refl

pub returns-in-1-2 : goal.returns-in-1-2
unfolding kinds_opened base_opened out_of beside
returns-in-1-2 c = ranged entry _ others _ _ _ c.in-1.in_default-own.rest c.in-1.if-kind-lt1-own.false c.in-1.if-kind-lt6-own.true refl

pub returns-in-1-3 : goal.returns-in-1-3
unfolding kinds_opened base_opened out_of beside
returns-in-1-3 c = ranged entry _ others _ _ _ c.in-1.in_default-own.rest c.in-1.if-kind-lt7-own.false c.in-1.if-kind-lt9-own.true refl
