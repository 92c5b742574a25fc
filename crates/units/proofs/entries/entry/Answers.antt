use mathlib.Core.Path.{refl}
use Rattle.units.specs.View.{entry_of}
use Rattle.units.proofs.entries.entry.Goals as goal

pub returns : goal.returns
unfolding entry_of
returns c = refl
