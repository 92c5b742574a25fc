use Rattle.delays.proofs.Countdowns.{due_ticks, due_seconds}
use Rattle.delays.proofs.countdown.Countdown.due.Goals as goal

pub returns-in-Ticks : goal.returns-in-Ticks
returns-in-Ticks c = due_ticks _ _ c.in-Ticks.is

pub returns-in-Seconds : goal.returns-in-Seconds
returns-in-Seconds c = due_seconds _ _ _ _ c.in-Seconds.is c.le32.ensures
