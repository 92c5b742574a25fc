use Rattle.wires.proofs.Recomputing.{recomputed}
use Rattle.wires.proofs.refreshing.recompute.Goals as goal

pub returns : goal.returns
returns c = recomputed _ _ _ _ _ _ _ c.compute-v.ensures c.output.ensures c.show.ensures c.clean.ensures
