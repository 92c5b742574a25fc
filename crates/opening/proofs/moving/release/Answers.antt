use Rattle.opening.proofs.Advancing.{releases, releases_not, lent_moved}
use borrow.Author.Rules.{rules}
use Rattle.opening.proofs.moving.release.Goals as goal

pub returns-clause-moves_gate : goal.returns-clause-moves_gate
returns-clause-moves_gate c = releases _ _ _ _ _ _ _ _ _ _ c.queue_advance.ensures c.in-Some.is c.output.ensures.0 c.set_row.ensures

pub returns-clause-slots_stay : goal.returns-clause-slots_stay
returns-clause-slots_stay c = lent_moved _ _ _ _ _ _ _ c.requires.1 c.queue_advance.ensures (search rules)

pub returns-in_default-clause-moves_gate : goal.returns-in_default-clause-moves_gate
returns-in_default-clause-moves_gate c = releases_not _ _ _ _ _ _ _ c.queue_advance.ensures c.in_default.is

pub returns-in_default-clause-slots_stay : goal.returns-in_default-clause-slots_stay
returns-in_default-clause-slots_stay c = lent_moved _ _ _ _ _ _ _ c.requires.1 c.queue_advance.ensures (search rules)
