use Rattle.units.proofs.Sending.{value_past, value_beside, value_is}
use Rattle.units.proofs.events.event_value.Goals as goal

pub returns-then-held-e : goal.returns-then-held-e
returns-then-held-e c = value_past _ _ _ _ c.outbox-h.ensures c.held.ensures _ c.if-held-e.true

pub returns-then-j-ge8 : goal.returns-then-j-ge8
returns-then-j-ge8 c = value_beside _ _ _ _ c.outbox-h.ensures c.held.ensures _ c.if-held-e.false c.if-j-ge8.true

pub returns : goal.returns
returns c = value_is _ _ _ _ c.outbox-h.ensures c.held.ensures _ _ _ _ c.requires c.if-held-e.false c.if-j-ge8.false c.get-kind.ensures c.get.ensures c.value_of.ensures
