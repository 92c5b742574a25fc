use Rattle.opening.proofs.Acts.{fire_pending_one}
use Rattle.opening.proofs.filing.fire_pending.Goals as goal

pub returns : goal.returns
returns c = fire_pending_one _ _ _ _ _ _ c.requires.1 c.entry.ensures c.activate.ensures
