use Rattle.links.proofs.Reading.{row_first_reader}
use Rattle.links.proofs.Links.first_reader.Goals as goal

pub returns : goal.returns
returns c = row_first_reader _ _ _ c.row.ensures
