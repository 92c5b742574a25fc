use Rattle.logging.proofs.Records.{shown_all, shown_none}
use Rattle.logging.proofs.outputs_shown.Goals as goal

pub returns-then-stop-eq0 : goal.returns-then-stop-eq0
returns-then-stop-eq0 c = shown_all _ _ _ c.if-stop-eq0.true c.outputs.ensures

pub returns-else-stop-eq0 : goal.returns-else-stop-eq0
returns-else-stop-eq0 c = shown_none _ _ c.if-stop-eq0.false
