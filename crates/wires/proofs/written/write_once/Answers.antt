use Rattle.wires.proofs.Memory.{write_full, write_again, write_new}
use Rattle.std.proofs.Common.{rules}
use Rattle.wires.proofs.written.write_once.Goals as goal

pub returns-then-n-ge-MOST_WRITTEN : goal.returns-then-n-ge-MOST_WRITTEN
returns-then-n-ge-MOST_WRITTEN c = write_full _ _ _ (search rules) c.get-n.ensures _ c.if-n-ge-MOST_WRITTEN.true

pub returns-then-is_written : goal.returns-then-is_written
returns-then-is_written c = write_again _ _ _ (search rules) c.get-n.ensures _ _ c.if-n-ge-MOST_WRITTEN.false c.is_written.ensures c.if-is_written.true

pub returns : goal.returns
returns c = write_new _ _ _ (search rules) c.get-n.ensures _ _ c.if-n-ge-MOST_WRITTEN.false c.is_written.ensures _ _ c.if-is_written.false c.put.ensures c.put-2.ensures
