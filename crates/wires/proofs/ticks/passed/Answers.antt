use Rattle.std.proofs.Common.{◌∙◌}
use borrow.Author.Tests.{le-ltb}
use Rattle.wires.proofs.Memory.{passed_in, passed_past}
use Rattle.wires.proofs.ticks.passed.Goals as goal

pub returns-then-g-gates : goal.returns-then-g-gates
returns-then-g-gates c = passed_in _ _ _ _ c.gates.ensures _ c.if-g-gates.true c.get.ensures

pub returns-else-g-gates : goal.returns-else-g-gates
returns-else-g-gates c = le-ltb _ _ c.if-g-gates.false ∙ passed_past _ _ _ _ c.gates.ensures c.if-g-gates.false
