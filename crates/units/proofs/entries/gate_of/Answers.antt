use mathlib.Core.Path.{refl}
use native.Mathlib.Omega.{arith}
use Rattle.units.specs.View.{gate_of}
use Rattle.units.proofs.entries.gate_of.Goals as goal

pub returns : goal.returns
unfolding gate_of
returns c = (refl, omega arith)
