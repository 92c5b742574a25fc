use Rattle.opening.proofs.Advancing.{fires_once, fires_not}
use Rattle.opening.specs.Stages.{releasing}
use Rattle.opening.proofs.moving.advance_queue.Goals as goal

pub returns-then-release-clause-over_all : goal.returns-then-release-clause-over_all
returns-then-release-clause-over_all c = fires_once _ _ _ _ _ _ _ (releasing _ _ _) _ _ _ _ c.release.ensures.moves_gate c.if-release.true c.fire_late.ensures

pub returns-clause-over_all : goal.returns-clause-over_all
returns-clause-over_all c = fires_not _ _ _ _ _ _ (releasing _ _ _) _ _ _ c.release.ensures.moves_gate c.if-release.false
