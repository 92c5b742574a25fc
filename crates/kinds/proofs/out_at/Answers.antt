use mathlib.Core.Path.{sym, ◌∙◌}
use Rattle.kinds.specs.Pins.{out_of}
use Rattle.kinds.proofs.Laws.{later_outputs, past_outputs, from_four}
use Rattle.kinds.proofs.out_at.Goals as goal

-- `kinds::out_at` meets its contract: outputs 4 to 8 of a kind are alike, and there are no more than nine. Assumes nothing.

pub returns-in-0 : goal.returns-in-0
returns-in-0 c = rw c.in-0.is c.first_output.ensures

pub returns-in-1 : goal.returns-in-1
returns-in-1 c = rw c.in-1.is c.second_output.ensures

pub returns-in-2 : goal.returns-in-2
returns-in-2 c = rw c.in-2.is c.third_output.ensures

pub returns-in-3 : goal.returns-in-3
returns-in-3 c = rw c.in-3.is c.fourth_output.ensures

pub returns-in-4-to-8 : goal.returns-in-4-to-8
returns-in-4-to-8 c = c.later_output.ensures ∙ sym (later_outputs _ _ (from_four _ c.in-4-to-8.in_default-own.rest) c.in-4-to-8.if-p-lt9-own.true)

pub returns-in_default : goal.returns-in_default
unfolding out_of
returns-in_default c = past_outputs _ _ c.in_default.if-p-lt9-own.false
