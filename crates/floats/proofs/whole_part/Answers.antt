use Rattle.floats.proofs.Ints.{whole_right, whole_left, whole_lt}
use lib.Pow.{shr_le}
use Rattle.std.proofs.Common.{◌+◌, ◌-◌, arith}
use Rattle.floats.proofs.whole_part.Goals as goal

pub returns-then-x-lt-OF_2_52 : goal.returns-then-x-lt-OF_2_52
returns-then-x-lt-OF_2_52 c = (whole_right (4503599627370496 + c.args.t) c.args.x c.requires.0 c.if-x-lt-OF_2_52.true, omega (arith, shr_le (4503599627370496 + c.args.t) (1075 - c.args.x), c.requires.2))

pub returns-else-x-lt-OF_2_52 : goal.returns-else-x-lt-OF_2_52
returns-else-x-lt-OF_2_52 c = (whole_left c.args.t c.args.x c.requires.2 c.if-x-lt-OF_2_52.false c.requires.1, whole_lt c.args.t c.args.x c.requires.2 c.requires.1)
