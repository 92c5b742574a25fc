use Rattle.units.proofs.Sending.{sender_past, sender_is}
use Rattle.units.proofs.events.sender.Goals as goal

pub returns-then-held-e : goal.returns-then-held-e
returns-then-held-e c = sender_past _ _ _ _ c.outbox-h.ensures c.held.ensures c.if-held-e.true

pub returns : goal.returns
returns c = sender_is _ _ _ _ _ c.outbox-h.ensures c.held.ensures c.if-held-e.false c.get.ensures
