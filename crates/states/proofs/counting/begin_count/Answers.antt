use Rattle.states.proofs.Counts.{begins}
use Rattle.states.proofs.counting.begin_count.Goals as goal

pub returns : goal.returns
returns c = begins _ _ c.requires _ _ _ c.from.ensures c.put.ensures
