use Rattle.ticks.proofs.Stages.{main_stopped, main_ran}
use Rattle.ticks.proofs.run_main.Goals as goal

pub returns-then-late-ne0-clause-over_all : goal.returns-then-late-ne0-clause-over_all
returns-then-late-ne0-clause-over_all c = main_stopped _ _ _ c.if-late-ne0.true

pub returns-then-late-ne0-clause-slots_stay : goal.returns-then-late-ne0-clause-slots_stay
returns-then-late-ne0-clause-slots_stay c = c.requires.2

pub returns-clause-over_all : goal.returns-clause-over_all
returns-clause-over_all c = main_ran _ _ _ _ _ c.if-late-ne0.false c.main_pass.ensures.over_all

pub returns-clause-slots_stay : goal.returns-clause-slots_stay
returns-clause-slots_stay c = c.main_pass.ensures.slots_stay
