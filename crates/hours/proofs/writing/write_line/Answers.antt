use Rattle.hours.proofs.Lines.{line_filled}
use Rattle.hours.proofs.writing.write_line.Goals as goal

pub returns : goal.returns
returns c = line_filled c.put.ensures c.put-2.ensures c.put-3.ensures c.put-4.ensures c.minutes.ensures c.put-5.ensures
