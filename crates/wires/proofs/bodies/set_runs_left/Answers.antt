use Rattle.wires.proofs.Memory.{runs_put}
use Rattle.std.proofs.Common.{rules}
use Rattle.wires.proofs.bodies.set_runs_left.Goals as goal

pub returns : goal.returns
returns c = runs_put _ _ _ (search rules) _ c.put.ensures
