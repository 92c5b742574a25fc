use Rattle.wires.proofs.Marks.{invalidated}
use Rattle.wires.proofs.marking.invalidate.Goals as goal

pub returns : goal.returns
returns c = invalidated _ _ _ _ _ _ c.soil.ensures c.output.ensures c.mark_readers.ensures
