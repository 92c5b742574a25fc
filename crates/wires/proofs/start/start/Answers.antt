use Rattle.wires.proofs.Starting.{started}
use Rattle.wires.proofs.start.start.Goals as goal

pub returns : goal.returns
returns c = started _ _ _ _ _ _ c.clear.ensures c.prepare_all.ensures c.refresh_all.ensures c.await_checks.ensures
