use Rattle.units.proofs.Filing.{delivered_taken}
use borrow.Author.Rules.{rules}
use Rattle.units.proofs.raising.take_delivered.Goals as goal

pub returns : goal.returns
returns c = λ k. delivered_taken k c.args.units.now c.dequeue.new.list (search rules) _ c.dequeue.auto.list c.dequeue.ensures.value c.dequeue.ensures.list_value
