use mathlib.Core.Path.{◌∙◌}
use borrow.Author.Tests.{eq-eqb}
use Rattle.circuit.proofs.Nested.{outside, of_a_loop}
use Rattle.circuit.proofs.bodies.in_a_body.Goals as goal

-- `circuit::bodies::in_a_body` meets its contract.

pub returns-then-body-eq0 : goal.returns-then-body-eq0
returns-then-body-eq0 c = eq-eqb _ _ c.if-body-eq0.true ∙ outside _ _ _ c.body_of_gate-body.ensures c.if-body-eq0.true

pub returns-else-body-eq0 : goal.returns-else-body-eq0
returns-else-body-eq0 c = of_a_loop _ _ _ c.body_of_gate-body.ensures _ c.if-body-eq0.false c.kind_of_gate.ensures
