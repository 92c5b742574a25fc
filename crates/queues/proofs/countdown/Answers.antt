use borrow.Author.Rules.{sfits_of}
use Rattle.queues.proofs.Lending.{countdown_seconds, countdown_ticks}
use Rattle.queues.proofs.countdown.Goals as goal

pub returns-then-seconds : goal.returns-then-seconds
returns-then-seconds c = countdown_seconds _ _ _ _ c.if-seconds.true c.as_float.ensures c.in_seconds.ensures

pub returns-else-seconds : goal.returns-else-seconds
returns-else-seconds c = countdown_ticks _ _ _ _ (sfits_of c.as_int.type_inv) c.if-seconds.false c.as_int.ensures c.in_ticks.ensures
