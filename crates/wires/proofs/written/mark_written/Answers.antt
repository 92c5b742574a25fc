use Rattle.std.proofs.Common.{refl, rules}
use Rattle.wires.proofs.Memory.{writes_first, writes_kept, writes_next, writes_last}
use Rattle.wires.proofs.written.mark_written.Goals as goal

pub loop-k-init : goal.loop-k-init
loop-k-init c = (search rules, refl, writes_first _ _)

pub loop-k-preserved : goal.loop-k-preserved
loop-k-preserved c = (search rules, writes_kept _ _ _ _ _ c.publish_write.ensures c.loop-k.invariant.1, writes_next _ _ _ _ _ _ _ _ c.written-n.ensures c.loop-k-test.true c.loop-k.invariant.1 c.get.ensures c.publish_write.ensures c.loop-k.invariant.2)

pub returns : goal.returns
returns c = writes_last _ _ _ _ _ _ c.written-n.ensures c.loop-k-test.false c.loop-k.invariant.2
