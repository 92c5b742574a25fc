use Rattle.cycle.proofs.Laws.{count_below, count_zero, from_below, from_shrunk}
use Rattle.cycle.proofs.cycle_next.Goals as goal

pub returns-then-n-ge-FIRST_NEGATIVE : goal.returns-then-n-ge-FIRST_NEGATIVE
returns-then-n-ge-FIRST_NEGATIVE c = count_below _ _ _ c.ranges.count c.ranges.now _ c.unsigned-n.ensures c.if-n-ge-FIRST_NEGATIVE.true

pub returns-then-n-eq0 : goal.returns-then-n-eq0
returns-then-n-eq0 c = count_zero _ _ _ c.ranges.count c.ranges.now _ c.unsigned-n.ensures c.if-n-ge-FIRST_NEGATIVE.false c.if-n-eq0.true

pub returns-then-w-n : goal.returns-then-w-n
returns-then-w-n c = from_below _ _ _ c.ranges.count c.ranges.now _ c.unsigned-n.ensures c.if-n-ge-FIRST_NEGATIVE.false c.if-n-eq0.false _ c.unsigned-w.ensures _ c.step.ensures c.if-w-n.true

pub returns : goal.returns
returns c = from_shrunk _ _ _ c.ranges.count c.ranges.now _ c.unsigned-n.ensures c.if-n-ge-FIRST_NEGATIVE.false c.if-n-eq0.false _ c.unsigned-w.ensures _ _ c.step-2.ensures c.shrunk.ensures.0
