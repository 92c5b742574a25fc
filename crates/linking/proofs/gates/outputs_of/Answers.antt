use Rattle.linking.proofs.GateByGate.{outs_of}
use Rattle.linking.proofs.gates.outputs_of.Goals as goal

-- `outputs_of` meets its contract.

pub returns : goal.returns
returns c = outs_of _ _ _ _ _ c.read.ensures c.outputs.ensures
