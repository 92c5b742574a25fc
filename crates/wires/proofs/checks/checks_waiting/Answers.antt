use Rattle.wires.proofs.Checking.{so_many_wait}
use Rattle.std.proofs.Common.{rules}
use Rattle.wires.proofs.checks.checks_waiting.Goals as goal

pub returns : goal.returns
returns c = so_many_wait _ _ _ (search rules) c.get.ensures
