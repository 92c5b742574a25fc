use Rattle.links.proofs.Reading.{outputs_counted}
use Rattle.links.proofs.Links.outputs.Goals as goal

pub returns : goal.returns
returns c = outputs_counted _ _ c.counted.ensures
