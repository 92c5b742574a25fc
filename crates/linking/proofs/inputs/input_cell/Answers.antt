use Rattle.model.specs.Value.{bit}
use Rattle.linking.specs.Building.{input_cell}
use Rattle.linking.proofs.inputs.input_cell.Goals as goal

-- `input_cell` meets its contract.

pub returns : goal.returns
unfolding input_cell bit
returns c = rw (c.pack.ensures, c.from.ensures, c.watched.ensures)
