use Rattle.replay.specs.Bytes.{all_alike}
use Rattle.replay.proofs.Comparing.{and_go, and_end}
use Rattle.replay.proofs.bytes.are_alike.Goals as goal

pub returns-then-is_alike-2 : goal.returns-then-is_alike-2
unfolding all_alike
returns-then-is_alike-2 c = and_go _ _ _ _ c.is_alike.ensures c.if-is_alike.true (and_go _ _ _ _ c.is_alike-then-is_alike.ensures c.if-is_alike-2.true c.is_alike-then-is_alike-2.ensures)

pub returns-else-is_alike-2 : goal.returns-else-is_alike-2
unfolding all_alike
returns-else-is_alike-2 c = and_go _ _ _ _ c.is_alike.ensures c.if-is_alike.true (and_end _ _ _ c.is_alike-then-is_alike.ensures c.if-is_alike-2.false)

pub returns-else-is_alike : goal.returns-else-is_alike
unfolding all_alike
returns-else-is_alike c = and_end _ _ _ c.is_alike.ensures c.if-is_alike.false
