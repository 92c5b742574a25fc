use Rattle.wires.proofs.Leaves.{late_in, late_past}
use Rattle.wires.proofs.Checking.{unqueue_in, unqueue_past}
use Rattle.std.proofs.Common.{rules}
use Rattle.wires.proofs.checks.unqueue.Goals as goal

pub returns-then-i-inputs-clause-value : goal.returns-then-i-inputs-clause-value
returns-then-i-inputs-clause-value c = late_in _ _ _ _ c.inputs.ensures _ (search rules) c.if-i-inputs.true c.get-late.ensures

pub returns-then-i-inputs-clause-turns : goal.returns-then-i-inputs-clause-turns
returns-then-i-inputs-clause-turns c = unqueue_in _ _ _ _ c.inputs.ensures _ _ c.if-i-inputs.true c.put.ensures c.put-then-i-inputs.ensures

pub returns-clause-value : goal.returns-clause-value
returns-clause-value c = late_past _ _ _ _ c.inputs.ensures c.if-i-inputs.false

pub returns-clause-turns : goal.returns-clause-turns
returns-clause-turns c = unqueue_past _ _ _ _ c.inputs.ensures c.if-i-inputs.false
