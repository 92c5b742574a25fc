use Rattle.links.proofs.Reading.{constant_none, constant_some}
use Rattle.links.proofs.Links.constant.Goals as goal

pub returns-then-k-eq0 : goal.returns-then-k-eq0
returns-then-k-eq0 c = constant_none _ _ c.if-k-eq0.true

pub returns : goal.returns
returns c = constant_some _ _ _ _ _ c.if-k-eq0.false c.entry-kind.ensures c.entry-content.ensures c.value_of.ensures
