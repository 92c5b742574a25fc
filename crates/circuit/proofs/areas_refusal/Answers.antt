use Rattle.circuit.proofs.Order.{areas_enough, areas_short}
use Rattle.circuit.proofs.areas_refusal.Goals as goal

pub returns-then-enough : goal.returns-then-enough
returns-then-enough c = areas_enough _ _ _ c.queues.ensures _ c.enough.ensures c.if-enough.true

pub returns-else-enough : goal.returns-else-enough
returns-else-enough c = areas_short _ _ _ c.queues.ensures _ c.enough.ensures c.if-enough.false
