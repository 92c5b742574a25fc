use Rattle.circuit.proofs.Numbers.{handed}
use Rattle.circuit.proofs.Order.{words_passed, refused_early, asked_all}
use mathlib.Core.Path.{refl, sym}
use Rattle.circuit.proofs.circuit_refusal.Goals as goal

pub returns-in_err-words_refusal : goal.returns-in_err-words_refusal
returns-in_err-words_refusal c = let h = handed _ _ _ c.from_residual.ensures.1 c.in_err-words_refusal.ensures in refused_early _ _ _ h.0 h.1

pub link-requires : goal.link-requires
link-requires c =
    let w = words_passed _ (sym c.in_ok-words_refusal.ensures) in
    record { circuit_value = w.sizes; circuit_value_2 = w.constants; circuit_value_3 = w.gates }

pub links_refusal-requires-clause-circuit_value : goal.links_refusal-requires-clause-circuit_value
links_refusal-requires-clause-circuit_value c = sym c.in_ok-words_refusal.ensures

pub links_refusal-requires-clause-links_value : goal.links_refusal-requires-clause-links_value
links_refusal-requires-clause-links_value c = c.link.ensures

pub returns : goal.returns
returns c = asked_all _ _ _ 0 _ c.in_ok-words_refusal.ensures refl c.link.ensures c.links_refusal.ensures
