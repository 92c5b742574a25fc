use Rattle.unit.proofs.Finishing.{stop_none, finish_stopped, finish_settled}
use Rattle.settling.proofs.Turns.{settled_all, settled_none}
use mathlib.Core.Path.{refl}
use Rattle.unit.proofs.finish.Goals as goal

pub returns-then-stop-ne0-clause-over_all : goal.returns-then-stop-ne0-clause-over_all
returns-then-stop-ne0-clause-over_all c = finish_stopped _ _ _ _ _ c.if-stop-ne0.true

pub returns-then-checks_waiting-eq0-clause-over_all : goal.returns-then-checks_waiting-eq0-clause-over_all
returns-then-checks_waiting-eq0-clause-over_all c = finish_settled _ _ _ _ _ _ _ _ _ _ _ _ _ c.if-stop-ne0.false c.publish_writes.ensures (settled_none _ _ _ _ _ _ c.refresh_all.ensures _ c.checks_waiting.ensures c.if-checks_waiting-eq0.true) (stop_none _ refl)

pub returns-clause-over_all : goal.returns-clause-over_all
returns-clause-over_all c = finish_settled _ _ _ _ _ _ _ _ _ _ _ _ _ c.if-stop-ne0.false c.publish_writes.ensures (settled_all _ _ _ _ _ _ c.refresh_all.ensures _ _ c.check_waiting.ensures.over_all) c.stop_of.ensures
