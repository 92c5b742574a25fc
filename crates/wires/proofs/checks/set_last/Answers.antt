use Rattle.std.proofs.Common.{arith}
use Rattle.wires.proofs.Memory.{kind_small, set_last_in, set_last_past}
use Rattle.wires.proofs.checks.set_last.Goals as goal

pub overflow_add-kind_of : goal.overflow_add-kind_of
overflow_add-kind_of c = let q = kind_small c.args.v in omega (arith, q, c.kind_of.ensures)

pub returns-then-i-inputs : goal.returns-then-i-inputs
returns-then-i-inputs c = set_last_in _ _ _ _ c.inputs.ensures _ _ _ _ _ c.if-i-inputs.true c.kind_of.ensures c.put.ensures c.content_of.ensures c.put-then-i-inputs.ensures

pub returns-else-i-inputs : goal.returns-else-i-inputs
returns-else-i-inputs c = set_last_past _ _ _ _ c.inputs.ensures _ c.if-i-inputs.false
