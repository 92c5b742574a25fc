use Rattle.wires.proofs.Memory.{published}
use Rattle.std.proofs.Common.{rules}
use Rattle.wires.proofs.written.publish_writes.Goals as goal

pub returns : goal.returns
returns c = published _ _ _ _ _ (search rules) c.mark_written.ensures c.put.ensures c.put-2.ensures
