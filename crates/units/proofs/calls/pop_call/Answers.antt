use Rattle.units.proofs.Lending.{kept_length}
use Rattle.units.proofs.Calling.{call_popped, none_popped, fork_popped}
use borrow.Author.Rules.{rules}
use Rattle.units.proofs.calls.pop_call.Goals as goal

pub returns-then-under-calls_waiting : goal.returns-then-under-calls_waiting
returns-then-under-calls_waiting c = let u = c.args.units.now in let p = c.stack_pop.new.list in call_popped u p _ _ _ _ c.requires (kept_length 0 2056 u p c.stack_pop.auto.list (search rules)) c.calls_waiting.ensures c.if-under-calls_waiting.true (c.stack_pop.ensures.value, c.stack_pop.ensures.list_value)

pub returns-then-inside : goal.returns-then-inside
returns-then-inside c = none_popped _ _ _ _ c.calls_waiting.ensures c.if-under-calls_waiting.false c.if-inside.true

pub returns : goal.returns
returns c = let u = c.args.units.now in let d = c.dequeue.new.list in fork_popped u d _ _ _ _ c.requires (kept_length 2056 2064 u d c.dequeue.auto.list (search rules)) c.calls_waiting.ensures c.if-under-calls_waiting.false c.if-inside.false (c.dequeue.ensures.value, c.dequeue.ensures.list_value)
