use Rattle.wires.proofs.Memory.{dt_word}
use Rattle.wires.proofs.ticks.dt.Goals as goal

pub returns : goal.returns
returns c = dt_word _ _ _ c.get.ensures
