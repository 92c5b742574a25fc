use Rattle.lists.proofs.Answers.{refused}
use Rattle.opening.proofs.Ticks.{advance_stops, finishes}
use Rattle.settling.proofs.Turns.{settled_all, settled_none}
use Rattle.opening.proofs.finish.Goals as goal

pub returns-in_err-advance-clause-over_all : goal.returns-in_err-advance-clause-over_all
returns-in_err-advance-clause-over_all c = rw (refused c.from_residual.result c.from_residual.ensures.0) (advance_stops _ _ _ _ _ _ _ _ _ _ c.lower_all.ensures c.advance.ensures.over_all c.in_err-advance.was)

pub returns-then-checks_waiting-eq0-clause-over_all : goal.returns-then-checks_waiting-eq0-clause-over_all
returns-then-checks_waiting-eq0-clause-over_all c = finishes _ _ _ _ _ _ _ _ _ _ c.lower_all.ensures c.advance.ensures.over_all _ _ _ c.in_ok-advance.was c.invalidate_all.ensures (settled_none _ _ _ _ _ _ c.refresh_all.ensures _ c.checks_waiting.ensures c.if-checks_waiting-eq0.true)

pub returns-clause-over_all : goal.returns-clause-over_all
returns-clause-over_all c = finishes _ _ _ _ _ _ _ _ _ _ c.lower_all.ensures c.advance.ensures.over_all _ _ _ c.in_ok-advance.was c.invalidate_all.ensures (settled_all _ _ _ _ _ _ c.refresh_all.ensures _ _ c.check_waiting.ensures.over_all)
