use Rattle.links.proofs.Reading.{constants_counted}
use Rattle.links.proofs.Links.constants.Goals as goal

pub returns : goal.returns
returns c = constants_counted _ _ c.counted.ensures
