use borrow.Author.Rules.{rules}
use Rattle.circuit.specs.Gates.{waits}
use Rattle.circuit.proofs.sets.round.Goals as goal

pub returns : goal.returns
unfolding waits
returns c = c.gates_where.ensures (waits c.args.words.now c.args.unplaced) (λ h t l k. search rules)
