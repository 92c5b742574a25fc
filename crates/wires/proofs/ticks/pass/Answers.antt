use Rattle.wires.proofs.Memory.{pass_in, pass_past}
use Rattle.std.proofs.Common.{rules}
use Rattle.wires.proofs.ticks.pass.Goals as goal

pub returns-then-g-gates : goal.returns-then-g-gates
returns-then-g-gates c = pass_in _ _ _ _ c.gates.ensures _ (search rules) c.if-g-gates.true c.set_bit.ensures

pub returns-else-g-gates : goal.returns-else-g-gates
returns-else-g-gates c = pass_past _ _ _ _ c.gates.ensures c.if-g-gates.false
