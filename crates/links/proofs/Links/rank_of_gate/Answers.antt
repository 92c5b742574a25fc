use Rattle.links.proofs.Reading.{gate_rank}
use Rattle.links.proofs.Links.rank_of_gate.Goals as goal

pub returns : goal.returns
returns c = gate_rank _ _ _ c.gate_entry.ensures
