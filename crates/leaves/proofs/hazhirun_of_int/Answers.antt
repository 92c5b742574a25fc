use Rattle.model.specs.Value.{float_of_int}
use Rattle.std.specs.Int.{w64}
use mir.Facts.{to_z-of_z}
use mathlib.Core.Path.{ap, ◌∙◌}
use Rattle.leaves.proofs.hazhirun_of_int.Goals as goal

pub returns : goal.returns
returns c = c.of_int.ensures ∙ ap float_of_int (to_z-of_z {w = w64} c.ranges.z)
