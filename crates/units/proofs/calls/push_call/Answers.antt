use Rattle.units.proofs.Lending.{kept_length}
use Rattle.units.proofs.Calling.{call_pushed}
use borrow.Author.Rules.{rules}
use Rattle.units.proofs.calls.push_call.Goals as goal

pub returns : goal.returns
returns c = let u = c.args.units.now in let p = c.stack_push.new.list in call_pushed u p _ _ c.requires (kept_length 0 2056 u p c.stack_push.auto.list (search rules)) (c.stack_push.ensures.value, c.stack_push.ensures.list_value)
