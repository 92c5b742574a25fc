use Rattle.asked.specs.Tally.{with_wrong}
use Rattle.asked.proofs.tally.Tally.with_wrong.Goals as goal

pub returns : goal.returns
unfolding with_wrong
returns c = λ i. record { right = c.args.self.right; all = c.with_wrong.ensures i }
