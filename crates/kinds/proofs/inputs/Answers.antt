use Prim.Native.Nat.{ℕ, zero-le}
use mathlib.Core.Path.{refl}
use mathlib.Core.List.{List, [], ◌∷◌}
use lib.ListN.{length}
use Rattle.model.specs.Base.{base_opened}
use Rattle.model.specs.Kinds.{Kind, kinds_opened}
use Rattle.kinds.proofs.Laws.{keyed, ranged, last, beside}
use Rattle.kinds.proofs.inputs.Goals as goal

-- `kinds::inputs` meets its contract: each arm gives what the table has there. Assumes nothing.

-- the table's entry
abbrev entry : Kind → ℕ
entry = λ k. length k.ins

-- the keys of the arms, the last arm's first
abbrev others : List (List ℕ)
others = (15 ∷ 29 ∷ []) ∷ (1 ∷ 19 ∷ 23 ∷ []) ∷ (18 ∷ 20 ∷ []) ∷ (2 ∷ []) ∷ []

pub returns-in-18 : goal.returns-in-18
unfolding kinds_opened base_opened
returns-in-18 c = keyed entry _ (18 ∷ 20 ∷ []) _ c.in-18.is refl

pub returns-in-15 : goal.returns-in-15
unfolding kinds_opened base_opened
returns-in-15 c = keyed entry _ (15 ∷ 29 ∷ []) _ c.in-15.is refl

pub returns-in-16-to-17 : goal.returns-in-16-to-17
unfolding kinds_opened base_opened beside
returns-in-16-to-17 c = ranged entry _ others _ _ _ c.in-16-to-17.in_default-own.rest c.in-16-to-17.if-kind-lt15-own.false c.in-16-to-17.if-kind-lt18-own.true refl

pub returns-in-16-to-17-2 : goal.returns-in-16-to-17-2
unfolding kinds_opened base_opened beside
returns-in-16-to-17-2 c = ranged entry _ others _ _ _ c.in-16-to-17.in_default-own.rest c.in-16-to-17.if-kind-lt23-own.false c.in-16-to-17.if-kind-lt26-own.true refl

pub returns-in_default : goal.returns-in_default
unfolding kinds_opened base_opened beside
returns-in_default c = ranged entry _ others _ _ _ c.in_default.in_default-own.rest zero-le c.in_default.if-kind-lt5-own.true refl

pub returns-in_default-2 : goal.returns-in_default-2
unfolding kinds_opened base_opened beside
returns-in_default-2 c = ranged entry _ others _ _ _ c.in_default.in_default-own.rest c.in_default.if-kind-lt28-own.false c.in_default.if-kind-lt29-own.true refl

pub returns-in_default-3 : goal.returns-in_default-3
unfolding kinds_opened base_opened beside
returns-in_default-3 c = last entry _ others _ _ c.in_default.in_default-own.rest c.in_default.if-kind-lt32-own.false refl refl

pub returns-in-2 : goal.returns-in-2
unfolding kinds_opened base_opened
returns-in-2 c = keyed entry _ (2 ∷ []) _ c.in-2.in-2-own.keys1 refl

pub returns-in-2-2 : goal.returns-in-2-2
unfolding kinds_opened base_opened beside
returns-in-2-2 c = ranged entry _ others _ _ _ c.in-2.in_default-own.rest c.in-2.if-kind-lt5-own.false c.in-2.if-kind-lt10-own.true refl

pub returns-in-2-3 : goal.returns-in-2-3
unfolding kinds_opened base_opened beside
returns-in-2-3 c = ranged entry _ others _ _ _ c.in-2.in_default-own.rest c.in-2.if-kind-lt18-own.false c.in-2.if-kind-lt23-own.true refl

pub returns-in-2-4 : goal.returns-in-2-4
unfolding kinds_opened base_opened beside
returns-in-2-4 c = ranged entry _ others _ _ _ c.in-2.in_default-own.rest c.in-2.if-kind-lt26-own.false c.in-2.if-kind-lt28-own.true refl

pub returns-in-2-5 : goal.returns-in-2-5
unfolding kinds_opened base_opened beside
returns-in-2-5 c = ranged entry _ others _ _ _ c.in-2.in_default-own.rest c.in-2.if-kind-lt29-own.false c.in-2.if-kind-lt32-own.true refl

pub returns-in-1 : goal.returns-in-1
unfolding kinds_opened base_opened
returns-in-1 c = keyed entry _ (1 ∷ 19 ∷ 23 ∷ []) _ c.in-1.in-1-own.keys3 refl

pub returns-in-1-2 : goal.returns-in-1-2
unfolding kinds_opened base_opened beside
returns-in-1-2 c = ranged entry _ others _ _ _ c.in-1.in_default-own.rest c.in-1.if-kind-lt10-own.false c.in-1.if-kind-lt15-own.true refl
