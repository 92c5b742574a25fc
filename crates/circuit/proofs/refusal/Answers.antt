use Rattle.circuit.proofs.Numbers.{handed}
use Rattle.circuit.proofs.Order.{asked_early, asked_late, sizes_good}
use mathlib.Core.Path.{refl}
use Rattle.circuit.proofs.refusal.Goals as goal

pub returns-in_err-refusal_lent : goal.returns-in_err-refusal_lent
returns-in_err-refusal_lent c = let k = c.in_err-refusal_lent.ensures in let h = handed _ _ _ c.from_residual.ensures.1 k.0 in asked_early _ _ _ _ h.0 h.1

pub script_refusal-requires : goal.script_refusal-requires
script_refusal-requires c = let k = c.in_ok-refusal_lent.ensures in sizes_good _ _ 0 k.0 refl

pub returns : goal.returns
returns c = let k = c.in_ok-refusal_lent.ensures in asked_late _ _ _ 0 k.0 _ refl c.script_refusal.ensures
