use Rattle.units.proofs.Filing.{pending_taken}
use borrow.Author.Rules.{rules}
use Rattle.units.proofs.raising.take_pending.Goals as goal

pub returns : goal.returns
returns c = λ k. pending_taken k c.args.units.now c.stack_pop.new.list (search rules) _ c.stack_pop.auto.list c.stack_pop.ensures.value c.stack_pop.ensures.list_value
