use Rattle.links.proofs.Reading.{source_none, source_some}
use Rattle.links.proofs.Links.source.Goals as goal

pub returns-then-o : goal.returns-then-o
returns-then-o c = source_none _ _ _ c.entry-o.ensures c.if-o.true

pub returns : goal.returns
returns c = source_some _ _ _ c.entry-o.ensures c.if-o.false
