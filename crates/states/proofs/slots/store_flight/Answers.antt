use Rattle.states.proofs.Stores.{slot_long, stored_empty, stored_flight}
use borrow.Author.Rules.{rules}
use Rattle.states.proofs.slots.store_flight.Goals as goal

pub returns-in-None : goal.returns-in-None
returns-in-None c = stored_empty _ _ _ (slot_long _ (search rules)) c.in-None.is c.put.ensures.words

pub returns-in-Some : goal.returns-in-Some
returns-in-Some c = stored_flight _ _ _ _ c.in-Some.is c.launch.ensures
