use Rattle.wires.proofs.Memory.{written_found, written_next, written_not}
use Rattle.wires.proofs.written.is_written.Goals as goal

pub returns-then-get-o : goal.returns-then-get-o
returns-then-get-o c = written_found _ _ _ _ c.requires c.loop-k-test.true c.loop-k.invariant _ c.get.ensures c.if-get-o.true

pub loop-k-preserved : goal.loop-k-preserved
loop-k-preserved c = written_next _ _ _ _ c.requires c.loop-k-test.true c.loop-k.invariant _ c.get.ensures c.if-get-o.false

pub returns : goal.returns
returns c = written_not _ _ _ _ c.requires c.loop-k-test.false c.loop-k.invariant
