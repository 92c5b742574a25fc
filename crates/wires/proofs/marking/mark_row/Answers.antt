use Rattle.std.proofs.Common.{rules}
use Rattle.wires.proofs.Lists.{turn_last}
use Rattle.wires.proofs.Marks.{row_first, row_next, reader_to_do}
use Rattle.wires.proofs.marking.mark_row.Goals as goal

pub loop-k-init : goal.loop-k-init
loop-k-init c = (search rules, search rules, row_first _ _ _ _ _ c.first_reader-first.ensures c.reader_count-count.ensures)

pub loop-k-preserved : goal.loop-k-preserved
loop-k-preserved c = (search rules, reader_to_do _ _ _ _ c.mark_reader-h.ensures c.loop-k.invariant.1, row_next _ _ _ _ _ _ _ _ c.loop-k-test.true c.reader.ensures c.mark_reader-h.ensures c.loop-k.invariant.2)

pub returns : goal.returns
returns c = turn_last _ _ _ _ _ _ c.loop-k-test.false c.loop-k.invariant.2
