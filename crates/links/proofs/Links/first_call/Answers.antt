use Rattle.links.proofs.Reading.{row_first_call}
use Rattle.links.proofs.Links.first_call.Goals as goal

pub returns : goal.returns
returns c = row_first_call _ _ _ c.row.ensures
