use Rattle.opening.proofs.Advancing.{clock_moved, lent_moved}
use borrow.Author.Rules.{rules}
use Rattle.opening.proofs.moving.move_clock.Goals as goal

pub returns-clause-moves_gate : goal.returns-clause-moves_gate
returns-clause-moves_gate c = clock_moved _ _ _ _ _ _ _ _ _ _ _ _ _ c.input-i.ensures.0 c.ready.ensures c.ready-2.ensures c.interval-seconds.ensures c.look.ensures c.enabled-on.ensures c.dt-dt.ensures c.clock_advance.ensures

pub returns-clause-slots_stay : goal.returns-clause-slots_stay
returns-clause-slots_stay c = lent_moved _ _ _ _ _ _ _ c.requires.1 c.clock_advance.ensures (search rules)
