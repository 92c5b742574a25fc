use Rattle.wires.proofs.Tags.{kind_digits}
use Rattle.wires.proofs.held.kind_held.Goals as goal

pub returns : goal.returns
returns c = kind_digits _
