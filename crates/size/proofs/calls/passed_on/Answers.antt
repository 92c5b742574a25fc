use borrow.Author.Rules.{rules}
use Rattle.circuit.specs.Gates.{with_gate}
use Rattle.size.proofs.calls.passed_on.Goals as goal

pub returns : goal.returns
returns c = c.over_outputs.ensures with_gate (λ x h y k. search rules)
