use Rattle.wires.proofs.Memory.{runs_word}
use Rattle.wires.proofs.bodies.runs_left.Goals as goal

pub returns : goal.returns
returns c = runs_word _ _ _ c.get.ensures
