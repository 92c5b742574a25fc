use Rattle.std.proofs.Common.{refl, ◌∙◌, rules}
use Rattle.wires.proofs.Starting.{clear_first, clear_next, clear_last}
use Rattle.wires.proofs.start.clear.Goals as goal

pub loop-k-init : goal.loop-k-init
loop-k-init c = (search rules, clear_first _, refl)

pub loop-k-preserved : goal.loop-k-preserved
loop-k-preserved c = (search rules, clear_next _ _ _ _ (search rules) c.loop-k-test.true c.loop-k.invariant.1 c.put.ensures, c.put.ensures.tail ∙ c.loop-k.invariant.2)

pub returns : goal.returns
returns c = clear_last _ _ _ _ c.loop-k.auto.k-end c.loop-k-test.false c.loop-k.invariant.1 c.loop-k.invariant.2
