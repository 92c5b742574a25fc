use Rattle.units.proofs.Sending.{events_counted}
use Rattle.units.proofs.events.events.Goals as goal

pub returns : goal.returns
returns c =
    let h = events_counted _ _ _ c.outbox.ensures c.held.ensures in
    record { reads = h.0; upper_bound = h.1 }
