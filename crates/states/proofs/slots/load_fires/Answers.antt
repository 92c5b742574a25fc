use Rattle.states.proofs.Firing.{loaded_fires}
use mathlib.Core.Path.{refl}
use Rattle.states.proofs.slots.load_fires.Goals as goal

pub returns : goal.returns
returns c = (refl, loaded_fires _ _ _ _ _ _ c.get-first.ensures c.get-count.ensures c.load_places-words.ensures)
