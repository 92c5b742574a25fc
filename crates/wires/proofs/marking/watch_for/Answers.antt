use Rattle.wires.proofs.Leaves.{watched_for}
use Rattle.wires.proofs.marking.watch_for.Goals as goal

pub returns : goal.returns
returns c = watched_for _ _ _ _ c.watch.ensures c.mark_late.ensures
