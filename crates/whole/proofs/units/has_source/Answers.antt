use Rattle.whole.proofs.Forms.{source_known}
use Rattle.whole.proofs.units.has_source.Goals as goal

pub returns : goal.returns
returns c = source_known _ _ _ _ c.source.ensures c.is_some.ensures
