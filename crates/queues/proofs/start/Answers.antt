use Rattle.queues.proofs.Starting.{started}
use Rattle.queues.proofs.Numbers.{gates_few}
use borrow.Author.Rules.{rules}
use Rattle.queues.proofs.start.Goals as goal

pub returns : goal.returns
returns c = started _ _ _ _ (search rules) (search rules) (gates_few _) c.clear.ensures.0 c.give_parts.ensures.0 c.clear.ensures.1 c.give_parts.ensures.1
