use Rattle.opening.proofs.Advancing.{clock_fires, clock_waits}
use Rattle.opening.proofs.moving.advance_clock.Goals as goal

pub returns-then-move_clock-clause-over_all : goal.returns-then-move_clock-clause-over_all
returns-then-move_clock-clause-over_all c = clock_fires _ _ _ _ _ _ _ _ c.move_clock.ensures.moves_gate _ _ c.if-move_clock.true c.fire_pending.ensures

pub returns-clause-over_all : goal.returns-clause-over_all
returns-clause-over_all c = clock_waits _ _ _ _ _ _ _ _ c.move_clock.ensures.moves_gate c.if-move_clock.false
