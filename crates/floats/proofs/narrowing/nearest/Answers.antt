use lib.Pow.{shr_le}
use Rattle.std.proofs.Common.{◌*◌, ◌%◌, ◌^◌, arith}
use Rattle.floats.proofs.Narrow.{unit_pos, rest_fits, below_half, at_half, above_half}
use Rattle.floats.proofs.narrowing.nearest.Goals as goal

pub nonzero_rem-rest : goal.nonzero_rem-rest
nonzero_rem-rest c = unit_pos c.args.h c.requires.0

pub overflow_mul-rest : goal.overflow_mul-rest
overflow_mul-rest c = omega (arith, rest_fits c.args.q (1 * 2 ^ c.args.h % 18446744073709551616) c.requires.1)

pub overflow_add-result : goal.overflow_add-result
overflow_add-result c = omega (arith, shr_le c.args.q c.args.h)

pub overflow_add-result-else-rest-unit-2 : goal.overflow_add-result-else-rest-unit-2
overflow_add-result-else-rest-unit-2 c = omega (arith, shr_le c.args.q c.args.h)

pub returns-then-rest-unit : goal.returns-then-rest-unit
returns-then-rest-unit c = below_half c.args.q c.args.h c.requires.0 c.if-rest-unit.true

pub returns-then-rest-unit-2 : goal.returns-then-rest-unit-2
returns-then-rest-unit-2 c = at_half c.args.q c.args.h c.requires.0 c.if-rest-unit-2.true

pub returns-else-rest-unit-2 : goal.returns-else-rest-unit-2
returns-else-rest-unit-2 c = above_half c.args.q c.args.h c.requires.0 (omega arith)
