use Prim.Native.Nat.{ℕ, zero-le}
use mathlib.Core.Path.{refl}
use mathlib.Core.List.{List, [], ◌∷◌}
use lib.ListN.{length}
use Rattle.model.specs.Base.{base_opened}
use Rattle.model.specs.Kinds.{Kind, kinds_opened}
use Rattle.kinds.proofs.Laws.{keyed, ranged, last, beside}
use Rattle.kinds.proofs.outputs.Goals as goal

-- `kinds::outputs` meets its contract: each arm gives what the table has there. Assumes nothing.

-- the table's entry
abbrev entry : Kind → ℕ
entry = λ k. length k.outs

-- the keys of the arms, the last arm's first
abbrev others : List (List ℕ)
others = (29 ∷ []) ∷ (23 ∷ []) ∷ (7 ∷ 9 ∷ 15 ∷ 18 ∷ 20 ∷ 22 ∷ 28 ∷ 30 ∷ []) ∷ (8 ∷ 19 ∷ 21 ∷ 31 ∷ []) ∷ []

pub returns-in-7 : goal.returns-in-7
unfolding kinds_opened base_opened
returns-in-7 c = keyed entry _ (7 ∷ 9 ∷ 15 ∷ 18 ∷ 20 ∷ 22 ∷ 28 ∷ 30 ∷ []) _ c.in-7.is refl

pub returns-in-23 : goal.returns-in-23
unfolding kinds_opened base_opened
returns-in-23 c = keyed entry _ (23 ∷ []) _ c.in-23.is refl

pub returns-in-29 : goal.returns-in-29
unfolding kinds_opened base_opened
returns-in-29 c = keyed entry _ (29 ∷ []) _ c.in-29.is refl

pub returns-in-16-to-17 : goal.returns-in-16-to-17
unfolding kinds_opened base_opened beside
returns-in-16-to-17 c = ranged entry _ others _ _ _ c.in-16-to-17.in_default-own.rest c.in-16-to-17.if-kind-lt15-own.false c.in-16-to-17.if-kind-lt18-own.true refl

pub returns-in-16-to-17-2 : goal.returns-in-16-to-17-2
unfolding kinds_opened base_opened beside
returns-in-16-to-17-2 c = ranged entry _ others _ _ _ c.in-16-to-17.in_default-own.rest c.in-16-to-17.if-kind-lt26-own.false c.in-16-to-17.if-kind-lt28-own.true refl

pub returns-in_default : goal.returns-in_default
unfolding kinds_opened base_opened beside
returns-in_default c = ranged entry _ others _ _ _ c.in_default.in_default-own.rest zero-le c.in_default.if-kind-lt1-own.true refl

pub returns-in_default-2 : goal.returns-in_default-2
unfolding kinds_opened base_opened beside
returns-in_default-2 c = last entry _ others _ _ c.in_default.in_default-own.rest c.in_default.if-kind-lt28-own.false refl refl

pub returns-in-1-to-6 : goal.returns-in-1-to-6
unfolding kinds_opened base_opened
returns-in-1-to-6 c = keyed entry _ (8 ∷ 19 ∷ 21 ∷ 31 ∷ []) _ c.in-1-to-6.in-1-to-6-own.keys1 refl

pub returns-in-1-to-6-2 : goal.returns-in-1-to-6-2
unfolding kinds_opened base_opened beside
returns-in-1-to-6-2 c = ranged entry _ others _ _ _ c.in-1-to-6.in_default-own.rest c.in-1-to-6.if-kind-lt1-own.false c.in-1-to-6.if-kind-lt15-own.true refl

pub returns-in-1-to-6-3 : goal.returns-in-1-to-6-3
unfolding kinds_opened base_opened beside
returns-in-1-to-6-3 c = ranged entry _ others _ _ _ c.in-1-to-6.in_default-own.rest c.in-1-to-6.if-kind-lt18-own.false c.in-1-to-6.if-kind-lt26-own.true refl
