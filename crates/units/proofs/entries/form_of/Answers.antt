use mathlib.Core.Path.{refl}
use native.Mathlib.Omega.{arith}
use Rattle.units.specs.View.{form_of}
use Rattle.units.proofs.entries.form_of.Goals as goal

pub returns : goal.returns
unfolding form_of
returns c = (refl, omega arith)
