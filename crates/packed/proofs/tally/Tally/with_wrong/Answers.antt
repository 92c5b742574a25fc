use Rattle.packed.specs.Tally.{with_right, with_wrong, one_more}
use Rattle.packed.proofs.tally.Tally.with_wrong.Goals as goal

-- one more, which is wrong
pub returns : goal.returns
unfolding with_wrong with_right one_more
returns c = λ i. record { tried = (c.with_right.ensures i).tried; wrong = one_more c.args.self.wrong; cut = (c.with_right.ensures i).cut }
