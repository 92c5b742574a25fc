use Rattle.links.proofs.Reading.{input_watched}
use Rattle.links.proofs.Links.watching.Goals as goal

pub returns : goal.returns
returns c = input_watched _ _ _ c.input_entry.ensures
