use mathlib.Core.Path.{refl}
use Rattle.passes.proofs.Beginning.{over_pending, over_idle}
use Rattle.passes.proofs.main_over.Goals as goal

pub returns-then-pending-ne0 : goal.returns-then-pending-ne0
returns-then-pending-ne0 c = λ k. (refl, over_pending _ _ (c.pending.ensures k) c.if-pending-ne0.true)

pub returns : goal.returns
returns c = λ k. (refl, over_idle _ _ (c.pending.ensures k) c.if-pending-ne0.false)
