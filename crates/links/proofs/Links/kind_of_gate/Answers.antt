use Rattle.links.proofs.Reading.{gate_kind}
use Rattle.links.proofs.Links.kind_of_gate.Goals as goal

pub returns : goal.returns
returns c = gate_kind _ _ _ c.gate_entry.ensures
