use mathlib.Core.Path.{◌∙◌}
use Rattle.circuit.proofs.Loops.{part_at, part_past}
use Rattle.circuit.proofs.script.kind_of_gate.Goals as goal

-- `circuit::script::kind_of_gate` meets its contract, for a gate that is there and one that is not.

pub returns-then-g-kinds : goal.returns-then-g-kinds
returns-then-g-kinds c = c.get.ensures ∙ part_at _ _ _ _ c.if-g-kinds.true

pub returns-else-g-kinds : goal.returns-else-g-kinds
returns-else-g-kinds c = part_past _ _ _ _ c.if-g-kinds.false
