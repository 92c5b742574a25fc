use Rattle.floats.proofs.Narrow.{narrow_nan, narrow_rest, sign_le}
use Rattle.std.proofs.Common.{leb, arith}
use Rattle.floats.proofs.narrowing.nearest_f32.Goals as goal

pub overflow_add-result : goal.overflow_add-result
overflow_add-result c = omega (arith, c.sign.ensures, sign_le (leb 9223372036854775808 c.args.bits), c.magnitude.ensures.1)

pub overflow_cast-result : goal.overflow_cast-result
overflow_cast-result c = omega (arith, c.sign.ensures, sign_le (leb 9223372036854775808 c.args.bits), c.magnitude.ensures.1)

pub returns-then-unsigned-gt-INFINITY : goal.returns-then-unsigned-gt-INFINITY
returns-then-unsigned-gt-INFINITY c = narrow_nan c.args.bits c.if-unsigned-gt-INFINITY.true

pub returns-else-unsigned-gt-INFINITY : goal.returns-else-unsigned-gt-INFINITY
returns-else-unsigned-gt-INFINITY c = narrow_rest c.args.bits _ _ c.sign.ensures c.magnitude.ensures.0
