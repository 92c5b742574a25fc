use Rattle.wires.proofs.Recomputing.{refreshed}
use Rattle.wires.proofs.refreshing.refresh.Goals as goal

pub returns : goal.returns
returns c = refreshed _ _ _ _ _ c.gates.ensures c.refresh_to.ensures
