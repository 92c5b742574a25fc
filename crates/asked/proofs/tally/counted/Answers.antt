use Rattle.asked.proofs.Laws.{not_counted, is_counted}
use Rattle.packed.specs.Tally.{one_more}
use Rattle.std.proofs.Common.{refl, arith}
use Rattle.asked.proofs.tally.counted.Goals as goal

pub returns-then-number-ge20 : goal.returns-then-number-ge20
returns-then-number-ge20 c = not_counted _ _ (omega (arith, c.if-number-ge20.true, c.well_formed.0.1.0.1))

pub returns : goal.returns
unfolding one_more
returns c = is_counted _ _ _ refl
