use Rattle.settling.proofs.Changes.{pin_true, pin_false}
use Rattle.settling.proofs.pin_raised.Goals as goal

pub returns-then-truthy : goal.returns-then-truthy
returns-then-truthy c = pin_true _ _ _ _ _ c.truthy.ensures _ _ _ c.if-truthy.true c.input.ensures c.less-p.ensures c.entry.ensures

pub returns : goal.returns
returns c = pin_false _ _ _ _ _ c.truthy.ensures c.if-truthy.false
