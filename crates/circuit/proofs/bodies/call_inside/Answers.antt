use Rattle.circuit.proofs.Nested.{ends_alike}
use Rattle.circuit.proofs.bodies.call_inside.Goals as goal

-- `circuit::bodies::call_inside` meets its contract.

pub returns : goal.returns
returns c = ends_alike _ _ _ _ _ _ _ _ c.gate_at_output.ensures c.body_of_gate-from.ensures c.called_input.ensures c.gate_at_input.ensures c.body_of_gate-to.ensures
