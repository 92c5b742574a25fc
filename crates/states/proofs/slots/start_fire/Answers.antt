use Rattle.states.proofs.Firing.{add_full, add_moves}
use mathlib.Core.Path.{sym, ◌∙◌}
use Rattle.states.proofs.slots.start_fire.Goals as goal

pub returns-then-get-ge-MOST_FIRES : goal.returns-then-get-ge-MOST_FIRES
returns-then-get-ge-MOST_FIRES c = add_full _ _ _ _ c.get.ensures c.if-get-ge-MOST_FIRES.true

pub add-next-requires : goal.add-next-requires
add-next-requires c = c.requires.1 ∙ sym c.load_fires-fires.ensures.0

pub returns : goal.returns
returns c = add_moves _ _ _ _ _ _ _ c.get.ensures c.if-get-ge-MOST_FIRES.false c.load_fires-fires.ensures c.add-next.ensures c.store_fires.ensures
