use Rattle.states.proofs.Stores.{stored_buffer}
use Rattle.states.proofs.slots.store_buffer.Goals as goal

pub returns : goal.returns
returns c = stored_buffer _ _ _ _ _ c.store_flight.ensures c.store_later.ensures
