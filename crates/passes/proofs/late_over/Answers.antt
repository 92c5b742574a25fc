use mathlib.Core.Path.{refl}
use Rattle.passes.proofs.Beginning.{over_late, over_delivered, over_none}
use Rattle.passes.proofs.late_over.Goals as goal

pub returns-then-late-ne0 : goal.returns-then-late-ne0
returns-then-late-ne0 c = λ k. (refl, over_late _ _ _ (c.late.ensures k) c.if-late-ne0.true)

pub returns-then-delivered-ne0 : goal.returns-then-delivered-ne0
returns-then-delivered-ne0 c = λ k. (refl, over_delivered _ _ _ _ (c.late.ensures k) c.if-late-ne0.false (c.delivered.ensures k) c.if-delivered-ne0.true)

pub returns : goal.returns
returns c = λ k. (refl, over_none _ _ _ _ (c.late.ensures k) c.if-late-ne0.false (c.delivered.ensures k) c.if-delivered-ne0.false)
