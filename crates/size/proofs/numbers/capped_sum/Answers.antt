use borrow.Author.Rules.{rules}
use Rattle.size.specs.Numbers.{cap}
use Rattle.size.proofs.numbers.capped_sum.Goals as goal

pub returns : goal.returns
unfolding cap
returns c = search rules
