use Rattle.wires.proofs.Leaves.{cleaned, clean_already, clean_past}
use Rattle.std.proofs.Common.{rules}
use Rattle.wires.proofs.stale.clean.Goals as goal

pub returns-then-d-g-ne0 : goal.returns-then-d-g-ne0
returns-then-d-g-ne0 c = cleaned _ _ _ _ c.gates.ensures _ c.if-g-gates.true c.get-d.ensures _ (search rules) c.if-d-g-ne0.true c.put.ensures

pub returns-else-d-g-ne0 : goal.returns-else-d-g-ne0
returns-else-d-g-ne0 c = clean_already _ _ _ _ c.gates.ensures _ c.if-g-gates.true c.get-d.ensures c.if-d-g-ne0.false

pub returns-else-g-gates : goal.returns-else-g-gates
returns-else-g-gates c = clean_past _ _ _ _ c.gates.ensures c.if-g-gates.false
