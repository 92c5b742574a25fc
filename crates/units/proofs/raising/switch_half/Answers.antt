use Rattle.units.proofs.Ticks.{half_first, half_second}
use Rattle.units.proofs.raising.switch_half.Goals as goal

pub returns-then-get-eq0 : goal.returns-then-get-eq0
returns-then-get-eq0 c = λ k. half_first k _ c.put.new.area _ _ _ c.requires c.put.ensures c.get.ensures c.if-get-eq0.true c.put-then-get-eq0.ensures c.put-then-get-eq0-2.ensures

pub returns-else-get-eq0 : goal.returns-else-get-eq0
returns-else-get-eq0 c = λ k. half_second k _ c.put.new.area _ _ _ c.requires c.put.ensures c.get.ensures c.if-get-eq0.false c.put-else-get-eq0.ensures c.put-else-get-eq0-2.ensures
