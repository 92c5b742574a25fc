use borrow.Author.Rules.{rules}
use Rattle.size.specs.Numbers.{with_number}
use Rattle.size.proofs.numbers.with_output.Goals as goal

pub returns : goal.returns
unfolding with_number
returns c = c.over_calls.ensures (with_number c.args.numbers.now) (λ x h y k. search rules)
