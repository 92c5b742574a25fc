use Rattle.settling.proofs.Changes.{check_first, check_same, check_new}
use Rattle.settling.proofs.check.Goals as goal

pub returns-then-same-clause-over_values_delays : goal.returns-then-same-clause-over_values_delays
returns-then-same-clause-over_values_delays c = check_same _ _ _ _ _ _ _ _ c.last-was.ensures c.ready.ensures c.look-v.ensures c.set_last.ensures _ _ c.in-Some.is c.same.ensures c.if-same.true

pub returns-in-None-clause-over_values_delays : goal.returns-in-None-clause-over_values_delays
returns-in-None-clause-over_values_delays c = check_first _ _ _ _ _ _ _ _ c.last-was.ensures c.ready.ensures c.look-v.ensures c.set_last.ensures _ _ _ c.in-None.is c.detect.ensures.acts_in_both

pub returns-else-same-clause-over_values_delays : goal.returns-else-same-clause-over_values_delays
returns-else-same-clause-over_values_delays c = check_new _ _ _ _ _ _ _ _ c.last-was.ensures c.ready.ensures c.look-v.ensures c.set_last.ensures _ _ _ _ _ c.in-Some.is c.same.ensures c.if-same.false c.detect-in-Some.ensures.acts_in_both
