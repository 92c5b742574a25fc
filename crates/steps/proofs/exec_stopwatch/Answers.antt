use Rattle.steps.proofs.Timing.{presses, restarts}
use Rattle.steps.proofs.exec_stopwatch.Goals as goal

pub returns-then-p-ne0 : goal.returns-then-p-ne0
returns-then-p-ne0 c = presses _ _ _ _ _ _ c.stopwatch_press.ensures c.if-p-ne0.true

pub returns : goal.returns
returns c = restarts _ _ _ _ _ _ c.stopwatch_press.ensures _ _ c.if-p-ne0.false c.output.ensures c.set_out.ensures
