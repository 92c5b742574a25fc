use Rattle.wires.proofs.Recomputing.{select_a, select_b, routed, delta, uptime}
use Rattle.wires.proofs.refreshing.compute.Goals as goal

pub returns-then-truthy : goal.returns-then-truthy
returns-then-truthy c = select_b _ _ _ _ _ c.kind_of_gate.ensures _ _ _ _ c.in-1.is c.input.ensures c.look-choice.ensures c.truthy.ensures c.if-truthy.true c.input-then-truthy.ensures c.look.ensures

pub returns-else-truthy : goal.returns-else-truthy
returns-else-truthy c = select_a _ _ _ _ _ c.kind_of_gate.ensures _ _ _ _ c.in-1.is c.input.ensures c.look-choice.ensures c.truthy.ensures c.if-truthy.false c.input-else-truthy.ensures c.look-else-truthy.ensures

pub returns-in-2 : goal.returns-in-2
returns-in-2 c = routed _ _ _ _ _ c.kind_of_gate.ensures _ c.in-2.is c.input-in-2.ensures c.look-in-2.ensures

pub returns-in-3 : goal.returns-in-3
returns-in-3 c = delta _ _ _ _ _ c.kind_of_gate.ensures c.in-3.is c.get.ensures

pub returns-in_default : goal.returns-in_default
returns-in_default c = uptime _ _ _ _ _ c.kind_of_gate.ensures c.in_default.in_default-own.rest.0.0.1 c.in_default.in_default-own.rest.0.1 c.in_default.in_default-own.rest.1 c.get-in_default.ensures
