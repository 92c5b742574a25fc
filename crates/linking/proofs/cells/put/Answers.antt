use Rattle.linking.proofs.Leaves.{put_past}
use Rattle.linking.proofs.cells.put.Goals as goal

-- `put` meets its contract. Past the end nothing changes.

pub returns-else-i-cells : goal.returns-else-i-cells
returns-else-i-cells c = put_past _ _ _ c.if-i-cells.false
