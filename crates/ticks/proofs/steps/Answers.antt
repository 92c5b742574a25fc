use Rattle.ticks.proofs.Stages.{steps_runaway, steps_other}
use Rattle.ticks.proofs.steps.Goals as goal

pub returns-then-stop-eq-RUNAWAY : goal.returns-then-stop-eq-RUNAWAY
returns-then-stop-eq-RUNAWAY c = steps_runaway _ _ _ _ c.saturating_sub-made.ensures c.if-stop-eq-RUNAWAY.true

pub returns-else-stop-eq-RUNAWAY : goal.returns-else-stop-eq-RUNAWAY
returns-else-stop-eq-RUNAWAY c = steps_other _ _ _ _ c.saturating_sub-made.ensures c.if-stop-eq-RUNAWAY.false
