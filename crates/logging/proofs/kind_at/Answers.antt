use Rattle.logging.proofs.Turns.{kind_read}
use Rattle.logging.proofs.kind_at.Goals as goal

pub returns : goal.returns
returns c = kind_read _ _ _ _ c.kind_held.ensures c.get.ensures
