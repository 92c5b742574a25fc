use Rattle.std.proofs.Common.{◌∙◌, le-leb}
use Rattle.wires.proofs.Memory.{outside_in, outside_past}
use Rattle.wires.proofs.written.only_inside.Goals as goal

pub returns-then-gates-g : goal.returns-then-gates-g
returns-then-gates-g c = le-leb _ _ c.if-gates-g.true ∙ outside_past _ _ _ _ c.gates.ensures _ c.gate_at_output-g.ensures c.if-gates-g.true

pub returns-else-gates-g : goal.returns-else-gates-g
returns-else-gates-g c = outside_in _ _ _ _ c.gates.ensures _ _ c.gate_at_output-g.ensures c.if-gates-g.false c.get.ensures
