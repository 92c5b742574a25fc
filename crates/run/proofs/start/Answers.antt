use Rattle.run.proofs.Playing.{started}
use Rattle.run.proofs.start.Goals as goal

pub returns : goal.returns
returns c = let x = started _ _ _ _ _ _ _ c.start.ensures c.start-2.ensures c.start-3.ensures.0 c.start-3.ensures.1 in (x.0, x.1, c.start-3.ensures.3)
