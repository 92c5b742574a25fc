use Rattle.linking.proofs.Loops.{cells_first, cells_next, cells_last}
use Rattle.linking.proofs.cells.write_each.Goals as goal

-- `write_each` meets its contract. The loop: what is left to write from cell base + k on leads to what was to be written.

pub loop-k-init : goal.loop-k-init
loop-k-init g c v h = cells_first v _ _ _

pub loop-k-preserved : goal.loop-k-preserved
loop-k-preserved g c v h = cells_next v _ _ _ _ _ _ _ c.loop-k-test.true (h _ _ c.loop-k-test.true c.f.ensures) c.put.ensures (c.loop-k.invariant v h)

pub returns : goal.returns
returns g c v h = cells_last v _ _ _ _ _ c.loop-k-test.false (c.loop-k.invariant v h)
