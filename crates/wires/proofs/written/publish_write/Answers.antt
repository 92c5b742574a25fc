use Rattle.wires.proofs.Memory.{published_one}
use Rattle.wires.proofs.written.publish_write.Goals as goal

pub returns : goal.returns
returns c = published_one _ _ _ _ _ c.only_inside-late.ensures c.mark_readers_for.ensures
