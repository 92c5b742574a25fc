use Rattle.wires.proofs.Memory.{passed_put}
use Rattle.std.proofs.Common.{rules}
use Rattle.wires.proofs.bodies.set_unions_passed.Goals as goal

pub returns : goal.returns
returns c = passed_put _ _ _ (search rules) _ c.put.ensures
