use Rattle.states.proofs.Firing.{fires_none, fires_run}
use Rattle.states.proofs.slots.run_fires.Goals as goal

pub returns-then-get-eq0-clause-turns : goal.returns-then-get-eq0-clause-turns
returns-then-get-eq0-clause-turns c = fires_none _ _ _ _ c.get.ensures c.if-get-eq0.true

pub returns : goal.returns
returns c =
    let h = fires_run _ _ _ _ _ _ c.load_fires-fires.ensures c.advance-next.ensures c.store_fires.ensures in
    record { turns = h.0; upper_bound = h.1 }
