use Rattle.wires.proofs.Recomputing.{counted_inputs}
use Rattle.wires.proofs.refreshing.inputs_of.Goals as goal

pub returns : goal.returns
returns c = counted_inputs _ _ _ _ c.kind_of_gate.ensures c.inputs.ensures
