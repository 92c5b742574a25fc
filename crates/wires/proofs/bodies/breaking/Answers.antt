use Rattle.wires.proofs.Memory.{breaking_word}
use Rattle.wires.proofs.bodies.breaking.Goals as goal

pub returns : goal.returns
returns c = breaking_word _ _ _ c.get.ensures
