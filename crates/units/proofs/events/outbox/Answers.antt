use Rattle.units.proofs.Sending.{outbox_first, outbox_second}
use Rattle.units.proofs.events.outbox.Goals as goal

pub returns-then-get-eq0 : goal.returns-then-get-eq0
returns-then-get-eq0 c = outbox_first _ _ c.get.ensures c.if-get-eq0.true

pub returns-else-get-eq0 : goal.returns-else-get-eq0
returns-else-get-eq0 c = outbox_second _ _ c.get.ensures c.if-get-eq0.false
