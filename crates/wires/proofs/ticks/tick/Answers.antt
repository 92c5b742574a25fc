use Rattle.wires.proofs.Memory.{tick_word}
use Rattle.wires.proofs.ticks.tick.Goals as goal

pub returns : goal.returns
returns c = tick_word _ _ _ c.get.ensures
