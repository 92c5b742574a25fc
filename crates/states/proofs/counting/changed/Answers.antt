use Rattle.states.specs.View.{delays}
use borrow.Author.Rules.{rules}
use Rattle.states.proofs.counting.changed.Goals as goal

pub returns : goal.returns
unfolding delays
returns c = search rules
