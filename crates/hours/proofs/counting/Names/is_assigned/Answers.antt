use Rattle.hours.proofs.Passing.{driver_none, activity_none, activity_some}
use Rattle.hours.proofs.counting.Names.is_assigned.Goals as goal

pub returns-then-get-ne-INT : goal.returns-then-get-ne-INT
returns-then-get-ne-INT c = driver_none _ _ _ _ _ _ c.get.ensures c.if-get-ne-INT.true

pub returns-then-get-ne-INT-2 : goal.returns-then-get-ne-INT-2
returns-then-get-ne-INT-2 c = activity_none _ _ _ _ _ _ c.get.ensures c.if-get-ne-INT.false _ c.get-2.ensures c.if-get-ne-INT-2.true

pub returns : goal.returns
returns c = activity_some _ _ _ _ _ _ c.get.ensures c.if-get-ne-INT.false _ c.get-2.ensures c.if-get-ne-INT-2.false _ c.get-3.ensures
