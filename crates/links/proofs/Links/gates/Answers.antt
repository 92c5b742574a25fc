use Rattle.links.proofs.Reading.{gates_counted}
use Rattle.links.proofs.Links.gates.Goals as goal

pub returns : goal.returns
returns c = gates_counted _ _ c.counted.ensures
