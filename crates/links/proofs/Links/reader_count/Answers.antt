use Rattle.links.proofs.Reading.{row_reader_count}
use Rattle.links.proofs.Links.reader_count.Goals as goal

pub returns : goal.returns
returns c = row_reader_count _ _ _ c.row.ensures
