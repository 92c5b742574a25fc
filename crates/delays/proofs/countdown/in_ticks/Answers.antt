use Rattle.delays.proofs.Countdowns.{ticks_start}
use borrow.Author.Rules.{sfits_of}
use Rattle.delays.proofs.countdown.in_ticks.Goals as goal

pub returns : goal.returns
returns c = ticks_start _ _ c.ranges.t (sfits_of c.max.type_inv) c.max.ensures.value
