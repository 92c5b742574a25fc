use Rattle.steps.proofs.Rows.{row_read}
use Rattle.steps.proofs.reading.look_row.Goals as goal

pub returns : goal.returns
returns c = row_read _ _ _ _ _ _ _ _ _ _ c.look.ensures c.look-2.ensures c.look-3.ensures c.look-4.ensures c.look-5.ensures c.look-6.ensures c.look-7.ensures c.look-8.ensures
