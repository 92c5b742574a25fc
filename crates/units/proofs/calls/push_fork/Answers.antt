use Rattle.units.proofs.Lending.{kept_length}
use Rattle.units.proofs.Calling.{fork_pushed}
use borrow.Author.Rules.{rules}
use Rattle.units.proofs.calls.push_fork.Goals as goal

pub returns : goal.returns
returns c = let u = c.args.units.now in let p = c.enqueue.new.list in fork_pushed u p _ _ c.requires (kept_length 2056 2064 u p c.enqueue.auto.list (search rules)) (c.enqueue.ensures.value, c.enqueue.ensures.list_value)
