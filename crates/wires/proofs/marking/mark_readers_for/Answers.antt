use Rattle.wires.proofs.Marks.{marked_for}
use Rattle.wires.proofs.marking.mark_readers_for.Goals as goal

pub returns : goal.returns
returns c = marked_for _ _ _ _ _ _ c.set_marking.ensures c.mark_from.ensures
