use Rattle.opening.proofs.Advancing.{timer_fires, timer_waits}
use Rattle.opening.proofs.moving.advance_timer.Goals as goal

pub returns-then-move_timer-clause-over_all : goal.returns-then-move_timer-clause-over_all
returns-then-move_timer-clause-over_all c = timer_fires _ _ _ _ _ _ _ _ c.move_timer.ensures.moves_gate _ _ c.if-move_timer.true c.fire_late.ensures

pub returns-clause-over_all : goal.returns-clause-over_all
returns-clause-over_all c = timer_waits _ _ _ _ _ _ _ _ c.move_timer.ensures.moves_gate c.if-move_timer.false
