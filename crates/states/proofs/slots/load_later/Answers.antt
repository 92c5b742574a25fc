use Rattle.states.proofs.Stores.{loaded_none, loaded_later}
use Rattle.states.proofs.slots.load_later.Goals as goal

pub returns-then-get-eq0 : goal.returns-then-get-eq0
returns-then-get-eq0 c = loaded_none _ _ c.get.ensures c.if-get-eq0.true

pub returns : goal.returns
returns c = loaded_later _ _ _ _ _ c.get.ensures c.if-get-eq0.false c.get-2.ensures c.get-3.ensures c.value_of.ensures
