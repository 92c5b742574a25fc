use Rattle.opening.proofs.Advancing.{shows, shows_not}
use Rattle.opening.proofs.moving.show_time.Goals as goal

pub returns-then-shows : goal.returns-then-shows
returns-then-shows c = shows _ _ _ _ _ _ _ c.if-shows.true c.output.ensures.0 c.set_out.ensures

pub returns-else-shows : goal.returns-else-shows
returns-else-shows c = shows_not _ _ _ _ _ c.if-shows.false
