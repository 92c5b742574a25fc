use Rattle.replay.specs.Due.{as_due}
use Rattle.replay.proofs.Comparing.{and_go, and_end}
use Rattle.replay.proofs.due.is_as_due.Goals as goal

pub returns-then-is_holding : goal.returns-then-is_holding
unfolding as_due
returns-then-is_holding c = and_go _ _ _ _ c.is_end.ensures c.if-is_end.true (and_go _ _ _ _ c.is_holding.ensures c.if-is_holding.true c.are_alike.ensures)

pub returns-else-is_holding : goal.returns-else-is_holding
unfolding as_due
returns-else-is_holding c = and_go _ _ _ _ c.is_end.ensures c.if-is_end.true (and_end _ _ _ c.is_holding.ensures c.if-is_holding.false)

pub returns-else-is_end : goal.returns-else-is_end
unfolding as_due
returns-else-is_end c = and_end _ _ _ c.is_end.ensures c.if-is_end.false
