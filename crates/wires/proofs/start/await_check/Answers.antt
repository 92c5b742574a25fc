use Rattle.wires.proofs.Starting.{await_in, await_not}
use Rattle.wires.proofs.start.await_check.Goals as goal

pub returns-then-watching : goal.returns-then-watching
returns-then-watching c = await_in _ _ _ _ _ c.watching.ensures c.if-watching.true c.watch.ensures

pub returns-else-watching : goal.returns-else-watching
returns-else-watching c = await_not _ _ _ _ c.watching.ensures c.if-watching.false
