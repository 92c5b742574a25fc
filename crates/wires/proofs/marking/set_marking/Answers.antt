use Rattle.wires.proofs.Marks.{set_marking}
use Rattle.std.proofs.Common.{rules}
use Rattle.wires.proofs.marking.set_marking.Goals as goal

pub returns : goal.returns
returns c = set_marking _ _ _ _ _ (search rules) (search rules) c.put.ensures
