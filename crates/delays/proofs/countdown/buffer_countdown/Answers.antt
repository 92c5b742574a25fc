use Rattle.delays.proofs.Countdowns.{by_seconds, by_ticks}
use Rattle.delays.proofs.countdown.buffer_countdown.Goals as goal

pub returns-then-seconds : goal.returns-then-seconds
returns-then-seconds c = by_seconds _ _ _ _ _ c.if-seconds.true c.countdown_seconds.ensures

pub returns-else-seconds : goal.returns-else-seconds
returns-else-seconds c = by_ticks _ _ _ _ _ c.if-seconds.false c.countdown_ticks.ensures
