use Rattle.wires.proofs.Memory.{counted}
use Rattle.std.proofs.Common.{rules}
use Rattle.wires.proofs.written.written.Goals as goal

pub returns : goal.returns
returns c = counted _ _ _ (search rules) c.get.ensures _ c.min.ensures
