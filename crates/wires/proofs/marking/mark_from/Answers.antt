use Rattle.wires.proofs.Marks.{start_to_do, marked_readers}
use Rattle.std.proofs.Common.{rules}
use Rattle.wires.proofs.marking.mark_from.Goals as goal

pub mark_on-requires-clause-few_to_do : goal.mark_on-requires-clause-few_to_do
mark_on-requires-clause-few_to_do c = start_to_do _ _ _ _ c.put.ensures _ c.gates.ensures (search rules)

pub returns : goal.returns
returns c = marked_readers _ _ _ _ c.put.ensures _ c.gates.ensures _ (search rules) c.mark_on.ensures
