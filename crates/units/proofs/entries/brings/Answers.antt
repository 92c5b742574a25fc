use mathlib.Core.Path.{refl}
use native.Mathlib.Omega.{arith}
use Rattle.units.specs.View.{brings}
use Rattle.units.proofs.entries.brings.Goals as goal

pub returns : goal.returns
unfolding brings
returns c = (refl, omega arith)
