use Rattle.opening.proofs.Advancing.{timer_moved, lent_moved}
use borrow.Author.Rules.{rules}
use Rattle.opening.proofs.moving.move_timer.Goals as goal

pub returns-clause-moves_gate : goal.returns-clause-moves_gate
returns-clause-moves_gate c = timer_moved _ _ _ _ _ _ _ _ _ _ _ _ c.input-i.ensures.0 c.ready.ensures c.look.ensures c.as_float-limit.ensures c.dt-dt.ensures c.stopwatch_advance-s.ensures c.show_time.ensures

pub returns-clause-slots_stay : goal.returns-clause-slots_stay
returns-clause-slots_stay c = lent_moved _ _ _ _ _ _ _ c.requires.1 c.stopwatch_advance-s.ensures (search rules)
