use Rattle.delays.proofs.Countdowns.{of_seconds, of_ticks}
use Rattle.delays.proofs.countdown.of_word.Goals as goal

pub returns-then-seconds : goal.returns-then-seconds
returns-then-seconds c = of_seconds _ _ c.if-seconds.true

pub returns-else-seconds : goal.returns-else-seconds
returns-else-seconds c = of_ticks _ _ c.if-seconds.false
