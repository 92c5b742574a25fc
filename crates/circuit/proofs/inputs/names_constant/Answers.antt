use Rattle.circuit.proofs.Asking.{constant_named}
use Rattle.circuit.proofs.inputs.names_constant.Goals as goal

pub returns : goal.returns
returns c = constant_named _ _ _ c.constants.ensures.0
