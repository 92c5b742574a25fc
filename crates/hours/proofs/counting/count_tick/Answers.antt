use Rattle.hours.proofs.Passing.{assigned_there, unassigned_there, counts_as, counts_nobody}
use Rattle.hours.proofs.counting.count_tick.Goals as goal

pub assign-requires : goal.assign-requires
assign-requires c = (c.requires.1, (assigned_there _ _ _ _ _ _ c.is_assigned.ensures c.if-is_assigned.true _ _ c.get-d.ensures c.get-a.ensures).1)

pub returns-then-is_assigned : goal.returns-then-is_assigned
returns-then-is_assigned c = counts_as _ _ _ _ _ _ _ _ _ (assigned_there _ _ _ _ _ _ c.is_assigned.ensures c.if-is_assigned.true _ _ c.get-d.ensures c.get-a.ensures).0 c.assign.ensures

pub returns : goal.returns
returns c = counts_nobody _ _ _ _ _ _ _ (unassigned_there _ _ _ _ _ _ c.is_assigned.ensures c.if-is_assigned.false) c.skip.ensures
