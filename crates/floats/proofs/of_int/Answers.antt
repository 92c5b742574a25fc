use Rattle.model.specs.Value.{float_of_int}
use Rattle.std.proofs.Common.{ap, ◌∙◌, to_z-of_z}
use lib.Ieee.{binary64, to_bits, of_int}
use Rattle.floats.proofs.of_int.Goals as goal

pub returns : goal.returns
unfolding float_of_int
returns c = c.bits_of.ensures ∙ ap (to_bits binary64) (c.nearest_i64_to_f64.ensures ∙ ap (of_int binary64) (to_z-of_z c.ranges.z))
