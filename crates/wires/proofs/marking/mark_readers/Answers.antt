use Rattle.wires.proofs.Marks.{marked_for, marked_plainly}
use Rattle.wires.proofs.marking.mark_readers.Goals as goal

pub returns : goal.returns
returns c = marked_plainly _ _ _ _ (marked_for _ _ _ _ _ _ c.set_marking.ensures c.mark_from.ensures)
