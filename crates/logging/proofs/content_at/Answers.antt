use Rattle.logging.proofs.Turns.{content_read}
use Rattle.logging.proofs.content_at.Goals as goal

pub returns : goal.returns
returns c = content_read _ _ _ _ _ c.content_held.ensures c.get.ensures c.get-2.ensures
