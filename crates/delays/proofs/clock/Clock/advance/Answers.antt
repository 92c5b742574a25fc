use Rattle.delays.proofs.Timers.{clock_fires, clock_counts, clock_stands}
use Rattle.delays.proofs.clock.Clock.advance.Goals as goal

pub returns-then-le64 : goal.returns-then-le64
returns-then-le64 c = clock_fires _ _ _ _ _ _ c.if-enabled.true c.plus64.ensures c.le64.ensures c.if-le64.true

pub returns-else-le64 : goal.returns-else-le64
returns-else-le64 c = clock_counts _ _ _ _ _ _ c.if-enabled.true c.plus64.ensures c.le64.ensures c.if-le64.false

pub returns-else-enabled : goal.returns-else-enabled
returns-else-enabled c = clock_stands _ _ _ _ c.if-enabled.false
