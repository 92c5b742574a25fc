use Rattle.ticks.proofs.Stages.{head_is}
use Rattle.ticks.proofs.head.Goals as goal

pub returns : goal.returns
returns c = head_is _ _ _ _ _ _ _ _ c.tick.ensures c.steps.ensures
