use Rattle.states.proofs.Stores.{loaded_empty, loaded_flight}
use Rattle.states.proofs.slots.load_flight.Goals as goal

pub returns-then-get-eq0 : goal.returns-then-get-eq0
returns-then-get-eq0 c = loaded_empty _ _ _ c.get.ensures c.if-get-eq0.true

pub returns : goal.returns
returns c = loaded_flight _ _ _ _ _ _ _ _ c.get.ensures c.if-get-eq0.false c.get-2.ensures c.get-3.ensures c.value_of-what.ensures c.get-4.ensures c.of_word-left.ensures
