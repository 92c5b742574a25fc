use Rattle.asked.specs.Tally.{with_right}
use Rattle.asked.proofs.tally.Tally.with_right.Goals as goal

pub returns : goal.returns
unfolding with_right
returns c = λ i. record { right = c.counted.ensures i; all = c.with_right.ensures i }
