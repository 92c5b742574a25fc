use mathlib.Core.Bool.{true}
use borrow.Author.Rules.{rules}
use Rattle.circuit.proofs.sets.all_gates.Goals as goal

pub returns : goal.returns
returns c = c.gates_where.ensures (λ _. true) (λ h t l k. search rules)
