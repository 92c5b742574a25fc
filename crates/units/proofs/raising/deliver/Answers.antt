use Rattle.units.proofs.Filing.{event_queued, delivers}
use borrow.Author.Rules.{rules}
use Rattle.units.proofs.raising.deliver.Goals as goal

pub returns : goal.returns
returns c = λ k. delivers k _ _ _ _ _ _ c.entry-x.ensures (event_queued k c.args.units.now c.enqueue.new.list (search rules) _ _ c.enqueue.auto.list c.enqueue.ensures.value c.enqueue.ensures.list_value)
