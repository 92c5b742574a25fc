use Rattle.std.proofs.Common.{◌-◌, arith}
use Rattle.floats.proofs.Narrow.{too_small, subnormal, normal, too_large, result_le}
use Rattle.floats.proofs.narrowing.magnitude.Goals as goal

pub overflow_add-result : goal.overflow_add-result
overflow_add-result c = omega (arith, result_le c.args.t c.nearest-then-x-lt-OF_TOO_LARGE.result 29 c.requires.1 (omega arith) c.nearest-then-x-lt-OF_TOO_LARGE.ensures)

pub returns-then-x-lt-OF_HALF_SMALLEST : goal.returns-then-x-lt-OF_HALF_SMALLEST
returns-then-x-lt-OF_HALF_SMALLEST c = (too_small _ _ c.requires.1 c.if-x-lt-OF_HALF_SMALLEST.true, omega arith)

pub returns-then-x-lt-OF_LEAST_NORMAL : goal.returns-then-x-lt-OF_LEAST_NORMAL
returns-then-x-lt-OF_LEAST_NORMAL c = (subnormal c.args.x c.args.t _ c.requires.1 (omega arith) c.if-x-lt-OF_LEAST_NORMAL.true c.nearest.ensures, omega (arith, result_le c.args.t c.nearest.result (926 - c.args.x) c.requires.1 (omega arith) c.nearest.ensures))

pub returns-then-x-lt-OF_TOO_LARGE : goal.returns-then-x-lt-OF_TOO_LARGE
returns-then-x-lt-OF_TOO_LARGE c = (normal c.args.x c.args.t _ c.requires.1 c.if-x-lt-OF_LEAST_NORMAL.false c.if-x-lt-OF_TOO_LARGE.true c.nearest-then-x-lt-OF_TOO_LARGE.ensures, omega (arith, result_le c.args.t c.nearest-then-x-lt-OF_TOO_LARGE.result 29 c.requires.1 (omega arith) c.nearest-then-x-lt-OF_TOO_LARGE.ensures))

pub returns-else-x-lt-OF_TOO_LARGE : goal.returns-else-x-lt-OF_TOO_LARGE
returns-else-x-lt-OF_TOO_LARGE c = (too_large _ _ c.requires.1 c.if-x-lt-OF_TOO_LARGE.false c.requires.0 c.requires.2, omega arith)
