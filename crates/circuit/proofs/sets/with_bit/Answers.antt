use borrow.Author.Rules.{rules}
use Rattle.model.specs.Value.{bit}
use Rattle.circuit.proofs.sets.with_bit.Goals as goal

pub returns : goal.returns
unfolding bit
returns c = search rules
