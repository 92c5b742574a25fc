use Rattle.links.proofs.Reading.{input_gate}
use Rattle.links.proofs.Links.gate_at_input.Goals as goal

pub returns : goal.returns
returns c = input_gate _ _ _ c.input_entry.ensures
