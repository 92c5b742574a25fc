use Rattle.wires.proofs.Marks.{marked_for, marked_plainly, set_same, set_new}
use Rattle.wires.proofs.marking.set_out.Goals as goal

pub returns-then-same : goal.returns-then-same
returns-then-same c = set_same _ _ _ _ _ _ c.shown-old.ensures c.same.ensures c.if-same.true

pub returns : goal.returns
returns c = set_new _ _ _ _ _ _ c.shown-old.ensures c.same.ensures _ _ c.if-same.false c.show.ensures (marked_plainly _ _ _ _ (marked_for _ _ _ _ _ _ c.set_marking.ensures c.mark_from.ensures))
