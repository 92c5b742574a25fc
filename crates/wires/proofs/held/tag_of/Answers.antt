use Rattle.wires.proofs.Tags.{tag_made}
use Rattle.wires.proofs.held.tag_of.Goals as goal

pub returns : goal.returns
returns c = tag_made _ _ c.kind_of-kind.ensures
