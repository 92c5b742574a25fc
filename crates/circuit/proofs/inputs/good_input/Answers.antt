use Rattle.std.proofs.Common.{rules}
use Rattle.model.specs.Questions.{good_input}
use Rattle.circuit.proofs.inputs.good_input.Goals as goal

pub returns-then-may_store : goal.returns-then-may_store
unfolding good_input
returns-then-may_store c = search rules

pub returns-else-may_store : goal.returns-else-may_store
unfolding good_input
returns-else-may_store c = search rules
