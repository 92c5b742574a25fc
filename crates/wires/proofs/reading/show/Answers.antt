use Rattle.wires.proofs.Leaves.{show_in, show_out}
use Rattle.wires.proofs.reading.show.Goals as goal

pub returns-then-o-outputs : goal.returns-then-o-outputs
returns-then-o-outputs c = show_in _ _ _ _ c.outputs.ensures _ _ _ _ _ c.if-o-outputs.true c.tag_of.ensures c.put.ensures c.content_of.ensures c.put-then-o-outputs.ensures

pub returns-else-o-outputs : goal.returns-else-o-outputs
returns-else-o-outputs c = show_out _ _ _ _ c.outputs.ensures _ c.if-o-outputs.false
