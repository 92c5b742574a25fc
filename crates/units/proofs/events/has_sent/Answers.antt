use Rattle.units.proofs.Sending.{sent_is}
use Rattle.units.proofs.events.has_sent.Goals as goal

pub returns : goal.returns
returns c = sent_is _ _ _ _ _ c.outbox-h.ensures c.held-n.ensures c.sent_by.ensures
