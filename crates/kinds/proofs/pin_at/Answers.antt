use Rattle.kinds.specs.Pins.{in_of}
use Rattle.kinds.proofs.Laws.{later_inputs, from_three}
use Rattle.kinds.proofs.pin_at.Goals as goal

-- `kinds::pin_at` meets its contract: from the fourth on every input is a value. Assumes nothing.

pub returns-in-0 : goal.returns-in-0
returns-in-0 c = rw c.in-0.is c.first_input.ensures

pub returns-in-1 : goal.returns-in-1
returns-in-1 c = rw c.in-1.is c.second_input.ensures

pub returns-in-2 : goal.returns-in-2
returns-in-2 c = rw c.in-2.is c.third_input.ensures

pub returns-in_default : goal.returns-in_default
unfolding in_of
returns-in_default c = later_inputs _ _ (from_three _ c.in_default.in_default-own.rest)
