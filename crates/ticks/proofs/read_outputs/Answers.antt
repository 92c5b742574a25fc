use Rattle.ticks.proofs.Stages.{unread, read_all}
use Rattle.ticks.proofs.read_outputs.Goals as goal

pub returns-then-stop-ne0 : goal.returns-then-stop-ne0
returns-then-stop-ne0 c = unread _ _ _ c.if-stop-ne0.true

pub returns : goal.returns
returns c = read_all _ _ _ _ c.if-stop-ne0.false c.refresh_all.ensures
