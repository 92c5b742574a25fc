use Rattle.delays.proofs.Countdowns.{word_ticks, word_seconds}
use borrow.Author.Rules.{rules}
use Rattle.delays.proofs.countdown.Countdown.word.Goals as goal

pub returns-in-Ticks : goal.returns-in-Ticks
returns-in-Ticks c = word_ticks _ _ c.in-Ticks.is

pub returns-in-Seconds : goal.returns-in-Seconds
returns-in-Seconds c = word_seconds _ _ _ c.in-Seconds.is (search rules)
