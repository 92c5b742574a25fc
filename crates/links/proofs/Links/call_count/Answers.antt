use Rattle.links.proofs.Reading.{row_call_count}
use Rattle.links.proofs.Links.call_count.Goals as goal

pub returns : goal.returns
returns c = row_call_count _ _ _ c.row.ensures
