use Rattle.delays.proofs.Firing.{full_is}
use Rattle.delays.proofs.fires.Fires.full.Goals as goal

pub returns : goal.returns
returns c = full_is _
