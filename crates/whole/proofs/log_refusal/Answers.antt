use Rattle.circuit.proofs.Numbers.{handed}
use Rattle.whole.proofs.Logs.{asked_early, asked_whole, asked_not_whole}
use mathlib.Core.Path.{refl}
use Rattle.whole.proofs.log_refusal.Goals as goal

pub returns-in_err-circuit_refusal : goal.returns-in_err-circuit_refusal
returns-in_err-circuit_refusal c = let k = c.in_err-circuit_refusal.ensures in let h = handed _ _ _ c.from_residual.ensures.1 k.0 in asked_early _ _ _ _ _ (h.0, k.1) h.1

pub returns-then-whole : goal.returns-then-whole
returns-then-whole c = asked_whole _ _ _ _ 0 c.in_ok-circuit_refusal.ensures refl _ c.whole.ensures c.if-whole.true

pub returns-else-whole : goal.returns-else-whole
returns-else-whole c = asked_not_whole _ _ _ _ 0 c.in_ok-circuit_refusal.ensures refl _ c.whole.ensures c.if-whole.false
