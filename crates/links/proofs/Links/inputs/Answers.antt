use Rattle.links.proofs.Reading.{inputs_counted}
use Rattle.links.proofs.Links.inputs.Goals as goal

pub returns : goal.returns
returns c = inputs_counted _ _ c.counted.ensures
