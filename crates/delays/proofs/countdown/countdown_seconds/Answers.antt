use Rattle.delays.proofs.Countdowns.{seconds_rising, seconds_zero, seconds_unused}
use Rattle.delays.proofs.countdown.countdown_seconds.Goals as goal

pub returns-then-rising : goal.returns-then-rising
returns-then-rising c = seconds_rising _ _ _ _ _ c.if-rising.true c.as_float.ensures c.in_seconds.ensures

pub returns-then-le64 : goal.returns-then-le64
returns-then-le64 c = seconds_zero _ _ _ _ _ _ c.if-rising.false c.as_float-zero.ensures c.le64.ensures c.if-le64.true c.in_seconds-then-le64.ensures

pub returns-else-le64 : goal.returns-else-le64
returns-else-le64 c = seconds_unused _ _ _ _ _ _ _ c.if-rising.false c.as_float-zero.ensures c.le64.ensures c.if-le64.false c.as_float-else-le64.ensures c.in_seconds-else-le64.ensures
