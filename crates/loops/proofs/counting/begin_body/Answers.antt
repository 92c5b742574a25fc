use Rattle.loops.proofs.Runs.{body_begun}
use Rattle.loops.proofs.counting.begin_body.Goals as goal

pub returns : goal.returns
returns c = λ d. body_begun _ _ _ _ _ _ _ _ _ _ _ d _ _ c.entry_of_loop-e.ensures c.output.ensures.0 c.set_out.ensures c.clear_unions_passed.ensures c.output-2.ensures.0 (c.fire_output.ensures _ _)
