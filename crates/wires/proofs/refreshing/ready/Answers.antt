use Rattle.wires.proofs.Recomputing.{readied}
use Rattle.wires.proofs.refreshing.ready.Goals as goal

pub returns : goal.returns
returns c = readied _ _ _ _ _ c.gates.ensures c.refresh_behind.ensures
