use Rattle.links.proofs.Walking.{first_fits, later_some, later_none}
use Rattle.links.proofs.later_gates.Goals as goal

pub overflow_sub-result : goal.overflow_sub-result
overflow_sub-result c = first_fits _ _ c.first_gate-g.ensures c.if-g-lt64.true

pub returns-then-g-lt64 : goal.returns-then-g-lt64
returns-then-g-lt64 c = later_some _ _ c.first_gate-g.ensures c.if-g-lt64.true

pub returns : goal.returns
returns c = later_none _ _ c.first_gate-g.ensures c.if-g-lt64.false
