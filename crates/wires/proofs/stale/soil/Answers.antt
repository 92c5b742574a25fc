use Rattle.wires.proofs.Leaves.{soil_in, soil_out}
use Rattle.std.proofs.Common.{rules}
use Rattle.wires.proofs.stale.soil.Goals as goal

pub returns-then-g-gates : goal.returns-then-g-gates
returns-then-g-gates c = soil_in _ _ _ _ c.gates.ensures _ (search rules) c.if-g-gates.true c.set_bit.ensures

pub returns-else-g-gates : goal.returns-else-g-gates
returns-else-g-gates c = soil_out _ _ _ _ c.gates.ensures c.if-g-gates.false
