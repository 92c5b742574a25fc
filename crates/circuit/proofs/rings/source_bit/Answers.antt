use Rattle.circuit.proofs.Sources.{source_some, source_none}
use Rattle.circuit.proofs.rings.source_bit.Goals as goal

pub returns-in-Some : goal.returns-in-Some
returns-in-Some c = source_some _ _ _ _ _ _ c.source.ensures c.in-Some.is c.gate_at_output.ensures c.gate_bit.ensures

pub returns-in-None : goal.returns-in-None
returns-in-None c = source_none _ _ _ c.source.ensures c.in-None.is
