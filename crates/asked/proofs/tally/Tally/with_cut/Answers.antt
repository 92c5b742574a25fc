use Rattle.asked.specs.Tally.{with_cut}
use Rattle.asked.proofs.tally.Tally.with_cut.Goals as goal

pub returns : goal.returns
unfolding with_cut
returns c = λ i. record { right = c.args.self.right; all = c.with_cut.ensures i }
