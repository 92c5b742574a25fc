use Rattle.loops.proofs.Runs.{over_stopped, over_shown}
use Rattle.loops.proofs.counting.loop_over.Goals as goal

pub returns-then-looped-ne0 : goal.returns-then-looped-ne0
returns-then-looped-ne0 c = over_stopped _ _ _ _ _ c.if-looped-ne0.true

pub returns : goal.returns
returns c = over_shown _ _ _ _ _ _ _ _ _ _ _ _ c.if-looped-ne0.false c.set_breaking.ensures c.output.ensures.0 c.set_out.ensures c.output-2.ensures.0 c.set_out-2.ensures c.output-3.ensures.0 c.set_out-3.ensures
