use borrow.Author.Rules.{rules}
use Rattle.size.specs.Numbers.{with_number}
use Rattle.size.proofs.numbers.gate_steps.Goals as goal

pub returns : goal.returns
returns c = c.over_outputs.ensures (with_number c.args.numbers.now) (λ x h y k. search rules)
