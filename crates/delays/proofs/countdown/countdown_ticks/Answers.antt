use Rattle.delays.proofs.Countdowns.{ticks_rising, ticks_zero, ticks_unused}
use borrow.Author.Rules.{sfits_of}
use Rattle.delays.proofs.countdown.countdown_ticks.Goals as goal

pub returns-then-rising : goal.returns-then-rising
returns-then-rising c = ticks_rising _ _ _ _ _ (sfits_of c.as_int.type_inv) c.if-rising.true c.as_int.ensures c.in_ticks.ensures

pub returns-then-zero-ge0 : goal.returns-then-zero-ge0
returns-then-zero-ge0 c = ticks_zero _ _ _ _ _ (sfits_of c.as_int-zero.type_inv) c.if-rising.false c.as_int-zero.ensures c.if-zero-ge0.true c.in_ticks-then-zero-ge0.ensures

pub returns-else-zero-ge0 : goal.returns-else-zero-ge0
returns-else-zero-ge0 c = ticks_unused _ _ _ _ _ _ (sfits_of c.as_int-zero.type_inv) (sfits_of c.as_int-else-zero-ge0.type_inv) c.if-rising.false c.as_int-zero.ensures c.if-zero-ge0.false c.as_int-else-zero-ge0.ensures c.in_ticks-else-zero-ge0.ensures
