use Rattle.circuit.proofs.Numbers.{handed}
use Rattle.circuit.proofs.Order.{lent_early, lent_late, sizes_good}
use mathlib.Core.Path.{refl}
use Rattle.circuit.proofs.refusal_lent.Goals as goal

pub returns-in_err-circuit_refusal : goal.returns-in_err-circuit_refusal
returns-in_err-circuit_refusal c = let k = c.in_err-circuit_refusal.ensures in let h = handed _ _ _ c.from_residual.ensures.1 k.0 in (lent_early _ _ _ h.0 h.1, k.1)

pub areas_refusal-requires : goal.areas_refusal-requires
areas_refusal-requires c = let k = c.in_ok-circuit_refusal.ensures in sizes_good _ _ 0 k.0 refl

pub returns : goal.returns
returns c = let k = c.in_ok-circuit_refusal.ensures in (lent_late _ _ 0 k.0 _ refl c.areas_refusal.ensures, k.1)
