use Rattle.units.proofs.Ticks.{started}
use Rattle.units.proofs.raising.start.Goals as goal

pub returns : goal.returns
returns c = started _ _ _ _ _ c.put.ensures (c.clear_rest.ensures _) (c.clear_events.ensures _)
