use Rattle.wires.proofs.Memory.{recorded}
use Rattle.wires.proofs.written.record_write.Goals as goal

pub returns : goal.returns
returns c = recorded _ _ _ _ _ _ c.mark_outside.ensures c.write_once.ensures
