use Rattle.wires.proofs.Memory.{mark_outside_in, mark_outside_past, mark_inside}
use Rattle.std.proofs.Common.{rules}
use Rattle.wires.proofs.written.mark_outside.Goals as goal

pub returns-then-inside : goal.returns-then-inside
returns-then-inside c = mark_inside _ _ _ _ c.if-inside.true

pub returns-then-g-lt-MOST_GATES : goal.returns-then-g-lt-MOST_GATES
returns-then-g-lt-MOST_GATES c = mark_outside_in _ _ _ _ _ c.if-inside.false c.gate_at_output-g.ensures _ (search rules) c.set_bit.ensures

pub returns-else-g-lt-MOST_GATES : goal.returns-else-g-lt-MOST_GATES
returns-else-g-lt-MOST_GATES c = mark_outside_past _ _ _ _ _ c.if-inside.false c.gate_at_output-g.ensures c.if-g-lt-MOST_GATES.false
