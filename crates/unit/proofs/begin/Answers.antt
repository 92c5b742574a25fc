use Rattle.unit.proofs.Beginning.{pin_least, begin_pin, begin_fires}
use borrow.Author.Rules.{rules}
use Rattle.unit.proofs.begin.Goals as goal

pub overflow_sub-form : goal.overflow_sub-form
overflow_sub-form c = pin_least _ _ c.is_pin.ensures c.if-is_pin.true

pub returns-then-is_pin : goal.returns-then-is_pin
returns-then-is_pin c = begin_pin _ _ _ _ _ _ _ _ (c.clear_calls.ensures _) c.is_pin.ensures _ c.if-is_pin.true c.input.ensures (c.push_call.ensures _)

pub returns : goal.returns
returns c = begin_fires _ _ _ _ _ _ _ _ (c.clear_calls.ensures _) c.is_pin.ensures _ c.if-is_pin.false c.fired.ensures c.push_calls.ensures (search rules)
