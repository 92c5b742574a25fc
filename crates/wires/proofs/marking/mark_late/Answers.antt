use Rattle.wires.proofs.Leaves.{mark_late_in, mark_late_past, mark_not_late}
use Rattle.wires.proofs.marking.mark_late.Goals as goal

pub returns-then-i-lt-MOST_INPUTS : goal.returns-then-i-lt-MOST_INPUTS
returns-then-i-lt-MOST_INPUTS c = mark_late_in _ _ _ _ c.get.ensures c.if-get-ne0.true _ c.if-i-lt-MOST_INPUTS.true c.put.ensures

pub returns-else-i-lt-MOST_INPUTS : goal.returns-else-i-lt-MOST_INPUTS
returns-else-i-lt-MOST_INPUTS c = mark_late_past _ _ _ _ c.get.ensures c.if-get-ne0.true c.if-i-lt-MOST_INPUTS.false

pub returns-else-get-ne0 : goal.returns-else-get-ne0
returns-else-get-ne0 c = mark_not_late _ _ _ _ c.get.ensures c.if-get-ne0.false
