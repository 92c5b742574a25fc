use Rattle.lists.proofs.Answers.{refused}
use Rattle.opening.proofs.Ticks.{events_stop, all_arrive}
use Rattle.opening.proofs.arrive.Goals as goal

pub returns-in_err-deliver_all : goal.returns-in_err-deliver_all
returns-in_err-deliver_all c = rw (refused c.from_residual.result c.from_residual.ensures.0) (events_stop _ _ _ _ _ c.deliver_all.ensures c.in_err-deliver_all.was)

pub returns : goal.returns
returns c = all_arrive _ _ _ _ _ c.deliver_all.ensures _ _ c.in_ok-deliver_all.was c.stimulate.ensures
