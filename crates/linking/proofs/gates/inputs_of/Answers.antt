use Rattle.linking.proofs.GateByGate.{ins_of}
use Rattle.linking.proofs.gates.inputs_of.Goals as goal

-- `inputs_of` meets its contract.

pub returns : goal.returns
returns c = ins_of _ _ _ _ _ c.read.ensures c.inputs.ensures
