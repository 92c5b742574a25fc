use mathlib.Core.Path.{◌∙◌}
use Rattle.circuit.proofs.Nested.{calls_leave, gates_asked}
use Rattle.circuit.proofs.bodies.bodies_good.Goals as goal

-- `circuit::bodies::bodies_good` meets its contract.

pub returns-then-all_calls_inside : goal.returns-then-all_calls_inside
returns-then-all_calls_inside c = gates_asked _ _ c.all_calls_inside.ensures c.if-all_calls_inside.true _ c.gates_good.ensures

pub returns-else-all_calls_inside : goal.returns-else-all_calls_inside
returns-else-all_calls_inside c = c.if-all_calls_inside.false ∙ calls_leave _ _ c.all_calls_inside.ensures c.if-all_calls_inside.false
