use Rattle.wires.proofs.Leaves.{watch_in, watch_full, watch_already, watch_past}
use Rattle.std.proofs.Common.{rules}
use Rattle.wires.proofs.checks.watch.Goals as goal

pub returns-then-n-lt-MOST_INPUTS : goal.returns-then-n-lt-MOST_INPUTS
returns-then-n-lt-MOST_INPUTS c = watch_in _ _ _ _ c.inputs.ensures _ (search rules) c.if-i-inputs.true c.get.ensures _ c.if-get-eq0.true c.get-n.ensures _ _ _ _ c.if-n-lt-MOST_INPUTS.true c.get-h.ensures c.put.ensures c.put-then-n-lt-MOST_INPUTS.ensures c.put-then-n-lt-MOST_INPUTS-2.ensures

pub returns-else-n-lt-MOST_INPUTS : goal.returns-else-n-lt-MOST_INPUTS
returns-else-n-lt-MOST_INPUTS c = watch_full _ _ _ _ c.inputs.ensures _ (search rules) c.if-i-inputs.true c.get.ensures _ c.if-get-eq0.true c.get-n.ensures c.if-n-lt-MOST_INPUTS.false

pub returns-else-get-eq0 : goal.returns-else-get-eq0
returns-else-get-eq0 c = watch_already _ _ _ _ c.inputs.ensures _ (search rules) c.if-i-inputs.true c.get.ensures c.if-get-eq0.false

pub returns-else-i-inputs : goal.returns-else-i-inputs
returns-else-i-inputs c = watch_past _ _ _ _ c.inputs.ensures c.if-i-inputs.false
