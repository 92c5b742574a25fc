use Rattle.ticks.proofs.Stages.{late_stopped, late_ran}
use Rattle.ticks.proofs.run_late.Goals as goal

pub returns-in-Err-clause-over_all : goal.returns-in-Err-clause-over_all
returns-in-Err-clause-over_all c = late_stopped _ _ _ _ c.in-Err.is

pub returns-in-Err-clause-slots_stay : goal.returns-in-Err-clause-slots_stay
returns-in-Err-clause-slots_stay c = c.requires.2

pub returns-in-Ok-clause-over_all : goal.returns-in-Ok-clause-over_all
returns-in-Ok-clause-over_all c = late_ran _ _ _ _ _ _ c.in-Ok.is c.late_pass.ensures.over_all c.late_pass.ensures.over_all_2

pub returns-in-Ok-clause-slots_stay : goal.returns-in-Ok-clause-slots_stay
returns-in-Ok-clause-slots_stay c = c.late_pass.ensures.slots_stay
