use Rattle.whole.proofs.Heads.{steps_to_runaway, steps_else}
use Rattle.whole.proofs.head.good_steps.Goals as goal

pub returns-then-stop-eq-RUNAWAY : goal.returns-then-stop-eq-RUNAWAY
returns-then-stop-eq-RUNAWAY c = steps_to_runaway _ _ c.if-stop-eq-RUNAWAY.true

pub returns : goal.returns
returns c = steps_else _ _ c.if-stop-eq-RUNAWAY.false
