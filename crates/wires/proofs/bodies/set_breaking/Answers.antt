use Rattle.wires.proofs.Memory.{breaking_put}
use Rattle.std.proofs.Common.{rules}
use Rattle.wires.proofs.bodies.set_breaking.Goals as goal

pub returns : goal.returns
returns c = breaking_put _ _ _ (search rules) _ _ (search rules) c.put.ensures
