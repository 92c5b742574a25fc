use Rattle.wires.proofs.Memory.{passed_word}
use Rattle.wires.proofs.bodies.unions_passed.Goals as goal

pub returns : goal.returns
returns c = passed_word _ _ _ c.get.ensures
