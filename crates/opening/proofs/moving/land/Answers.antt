use Rattle.opening.proofs.Advancing.{lands, lands_not, lent_moved}
use borrow.Author.Rules.{rules}
use Rattle.opening.proofs.moving.land.Goals as goal

pub returns-in_default-clause-moves_gate : goal.returns-in_default-clause-moves_gate
returns-in_default-clause-moves_gate c = lands_not _ _ _ _ _ _ _ c.buffer_advance.ensures c.in_default.is

pub returns-in_default-clause-slots_stay : goal.returns-in_default-clause-slots_stay
returns-in_default-clause-slots_stay c = lent_moved _ _ _ _ _ _ _ c.requires.1 c.buffer_advance.ensures (search rules)

pub returns-in-Some-clause-moves_gate : goal.returns-in-Some-clause-moves_gate
returns-in-Some-clause-moves_gate c = lands _ _ _ _ _ _ _ _ _ _ c.buffer_advance.ensures c.in-Some.is c.output.ensures.0 c.set_out.ensures

pub returns-in-Some-clause-slots_stay : goal.returns-in-Some-clause-slots_stay
returns-in-Some-clause-slots_stay c = lent_moved _ _ _ _ _ _ _ c.requires.1 c.buffer_advance.ensures (search rules)
