use Rattle.lists.proofs.Answers.{refused}
use Rattle.steps.proofs.Timing.{one_fire_more, no_fire_more}
use Rattle.steps.proofs.exec_buffer.Goals as goal

pub returns-in_err-add_fire : goal.returns-in_err-add_fire
returns-in_err-add_fire c = rw (refused c.from_residual.result c.from_residual.ensures.0) (no_fire_more _ _ _ _ _ c.add_fire.ensures c.in_err-add_fire.was)

pub returns : goal.returns
returns c = one_fire_more _ _ _ _ _ c.add_fire.ensures c.in_ok-add_fire.was
