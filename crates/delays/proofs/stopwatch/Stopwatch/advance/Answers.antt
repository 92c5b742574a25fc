use Rattle.delays.proofs.Timers.{stopwatch_expires, stopwatch_runs, stopwatch_unlimited, stopwatch_stands}
use Rattle.delays.proofs.stopwatch.Stopwatch.advance.Goals as goal

pub returns-then-le64 : goal.returns-then-le64
returns-then-le64 c = stopwatch_expires _ _ _ _ _ c.if-self.true c.plus64.ensures c.lt64.ensures _ c.if-lt64.true c.le64.ensures c.if-le64.true

pub returns-else-le64 : goal.returns-else-le64
returns-else-le64 c = stopwatch_runs _ _ _ _ _ c.if-self.true c.plus64.ensures c.lt64.ensures _ c.if-lt64.true c.le64.ensures c.if-le64.false

pub returns-else-lt64 : goal.returns-else-lt64
returns-else-lt64 c = stopwatch_unlimited _ _ _ _ _ c.if-self.true c.plus64.ensures c.lt64.ensures c.if-lt64.false

pub returns-else-self : goal.returns-else-self
returns-else-self c = stopwatch_stands _ _ _ c.if-self.false
