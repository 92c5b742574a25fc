use Rattle.std.proofs.Common.{sym}
use lib.Ieee.{binary32, of_bits}
use Rattle.floats.proofs.Bits.{no_nan, nan_above}
use Rattle.floats.proofs.float32_of.Goals as goal

pub float_from_bits-result : goal.float_from_bits-result
float_from_bits-result c = no_nan binary32 c.args.bits c.if-bits-gt-INFINITY32.false

pub returns-then-bits-gt-INFINITY32 : goal.returns-then-bits-gt-INFINITY32
unfolding of_bits
returns-then-bits-gt-INFINITY32 c = sym (nan_above binary32 c.args.bits c.if-bits-gt-INFINITY32.true)
