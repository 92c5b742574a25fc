use Rattle.wires.proofs.Memory.{passed_none}
use Rattle.std.proofs.Common.{rules}
use Rattle.wires.proofs.bodies.clear_unions_passed.Goals as goal

pub returns : goal.returns
returns c = passed_none _ _ _ (search rules) c.put.ensures
