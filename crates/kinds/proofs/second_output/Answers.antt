use Prim.Native.Nat.{ℕ, zero-le}
use mathlib.Core.Path.{refl}
use mathlib.Core.List.{List, [], ◌∷◌}
use lib.ListN.{get_or}
use Rattle.model.specs.Base.{base_opened}
use Rattle.model.specs.Kinds.{Kind, Out, fires, kinds_opened}
use Rattle.kinds.specs.Pins.{out_of}
use Rattle.kinds.proofs.Laws.{keyed, ranged, last, beside}
use Rattle.kinds.proofs.second_output.Goals as goal

-- `kinds::second_output` meets its contract: each arm gives what the table has there. Assumes nothing.

-- the table's entry
abbrev entry : Kind → Out
entry = λ k. get_or k.outs 1 fires

-- the keys of the arms, the last arm's first
abbrev others : List (List ℕ)
others = (7 ∷ 22 ∷ []) ∷ []

pub returns-in_default : goal.returns-in_default
unfolding kinds_opened base_opened out_of beside
returns-in_default c = ranged entry _ others _ _ _ c.in_default.in_default-own.rest zero-le c.in_default.if-kind-lt16-own.true refl

pub returns-in_default-2 : goal.returns-in_default-2
unfolding kinds_opened base_opened out_of beside
returns-in_default-2 c = ranged entry _ others _ _ _ c.in_default.in_default-own.rest c.in_default.if-kind-lt19-own.false c.in_default.if-kind-lt26-own.true refl

pub returns-in_default-3 : goal.returns-in_default-3
unfolding kinds_opened base_opened out_of beside
returns-in_default-3 c = last entry _ others _ _ c.in_default.in_default-own.rest c.in_default.if-kind-lt31-own.false refl refl

pub returns-in-7 : goal.returns-in-7
unfolding kinds_opened base_opened out_of
returns-in-7 c = keyed entry _ (7 ∷ 22 ∷ []) _ c.in-7.in-7-own.keys1 refl

pub returns-in-7-2 : goal.returns-in-7-2
unfolding kinds_opened base_opened out_of beside
returns-in-7-2 c = ranged entry _ others _ _ _ c.in-7.in_default-own.rest c.in-7.if-kind-lt16-own.false c.in-7.if-kind-lt19-own.true refl

pub returns-in-7-3 : goal.returns-in-7-3
unfolding kinds_opened base_opened out_of beside
returns-in-7-3 c = ranged entry _ others _ _ _ c.in-7.in_default-own.rest c.in-7.if-kind-lt26-own.false c.in-7.if-kind-lt31-own.true refl
