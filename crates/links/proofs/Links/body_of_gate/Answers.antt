use Rattle.links.proofs.Reading.{gate_body}
use Rattle.links.proofs.Links.body_of_gate.Goals as goal

pub returns : goal.returns
returns c = gate_body _ _ _ c.gate_entry.ensures
