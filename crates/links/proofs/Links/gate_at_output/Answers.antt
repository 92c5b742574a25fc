use Rattle.links.proofs.Reading.{output_gate}
use Rattle.links.proofs.Links.gate_at_output.Goals as goal

pub returns : goal.returns
returns c = output_gate _ _ _ c.entry.ensures
