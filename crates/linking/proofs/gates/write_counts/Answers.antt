use Rattle.linking.proofs.Leaves.{four_stored}
use Rattle.linking.proofs.gates.write_counts.Goals as goal

-- `write_counts` meets its contract. Four stores in a row.

pub returns : goal.returns
returns c = four_stored c.args.cells.now _ _ _ _ _ _ _ _ c.put.ensures c.put-2.ensures c.put-3.ensures c.put-4.ensures
