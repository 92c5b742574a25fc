use Rattle.wires.proofs.Memory.{last_past, last_none, last_some}
use Rattle.std.proofs.Common.{rules}
use Rattle.wires.proofs.checks.last.Goals as goal

pub returns-then-inputs-i : goal.returns-then-inputs-i
returns-then-inputs-i c = last_past _ _ _ _ c.inputs.ensures c.if-inputs-i.true

pub returns-then-kind-eq0 : goal.returns-then-kind-eq0
returns-then-kind-eq0 c = last_none _ _ _ _ c.inputs.ensures _ (search rules) c.if-inputs-i.false c.get-kind.ensures c.if-kind-eq0.true

pub returns : goal.returns
returns c = last_some _ _ _ _ c.inputs.ensures _ _ _ (search rules) c.if-inputs-i.false c.get-kind.ensures c.if-kind-eq0.false c.get-content.ensures c.value_of.ensures
