use Rattle.wires.proofs.Leaves.{shown_in, shown_out}
use Rattle.std.proofs.Common.{rules}
use Rattle.wires.proofs.reading.shown.Goals as goal

pub returns-then-o-outputs : goal.returns-then-o-outputs
returns-then-o-outputs c = shown_in _ _ _ _ c.outputs.ensures _ _ _ (search rules) c.if-o-outputs.true c.get-tag.ensures c.get-content.ensures c.value_held.ensures

pub returns-else-o-outputs : goal.returns-else-o-outputs
returns-else-o-outputs c = shown_out _ _ _ _ c.outputs.ensures c.if-o-outputs.false
