use Rattle.std.proofs.Common.{sym}
use lib.Ieee.{binary64, of_bits}
use Rattle.floats.proofs.Bits.{no_nan, nan_above}
use Rattle.floats.proofs.float_of.Goals as goal

pub float_from_bits-result : goal.float_from_bits-result
float_from_bits-result c = no_nan binary64 c.args.bits c.if-bits-gt-INFINITY.false

pub returns-then-bits-gt-INFINITY : goal.returns-then-bits-gt-INFINITY
unfolding of_bits
returns-then-bits-gt-INFINITY c = sym (nan_above binary64 c.args.bits c.if-bits-gt-INFINITY.true)
