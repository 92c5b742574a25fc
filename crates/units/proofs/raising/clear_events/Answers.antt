use Rattle.units.proofs.Ticks.{events_cleared}
use Rattle.units.proofs.raising.clear_events.Goals as goal

pub returns : goal.returns
returns c = λ k. events_cleared k _ _ _ _ c.put.ensures c.put-2.ensures c.put-3.ensures
