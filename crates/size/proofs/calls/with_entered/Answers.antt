use borrow.Author.Rules.{rules}
use Rattle.circuit.specs.Gates.{with_gate}
use Rattle.size.proofs.calls.with_entered.Goals as goal

pub returns : goal.returns
unfolding with_gate
returns c = c.over_calls.ensures with_gate (λ x h y k. search rules)
