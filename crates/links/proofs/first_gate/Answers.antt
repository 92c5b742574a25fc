use Rattle.links.proofs.Walking.{first_is}
use Rattle.links.proofs.first_gate.Goals as goal

pub returns : goal.returns
returns c = first_is _
