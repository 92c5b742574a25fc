use Rattle.links.proofs.Reading.{loop_entry}
use Rattle.links.proofs.Links.entry_of_loop.Goals as goal

pub returns : goal.returns
returns c = loop_entry _ _ _ c.gate_entry.ensures
