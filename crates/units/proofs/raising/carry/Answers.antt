use Rattle.units.proofs.Filing.{carried_pushed}
use borrow.Author.Rules.{rules}
use Rattle.units.proofs.raising.carry.Goals as goal

pub returns : goal.returns
returns c = λ k. carried_pushed k c.args.units.now c.stack_push.new.list (search rules) _ _ c.stack_push.auto.list c.stack_push.ensures.value c.stack_push.ensures.list_value
