use Rattle.std.proofs.Common.{sym, not, refl, ◌∙◌}
use lib.Ieee.{binary64, is_nan, fits, eq, ne}
use lib.Ieee.Fits.{and_i, fits_widens}
use Rattle.floats.proofs.Bits.{is_nan_only}
use Rattle.floats.proofs.narrowing.differs.Goals as goal

pub float_to_float-result : goal.float_to_float-result
float_to_float-result c = let x = c.args.x in and_i (fits binary64 x) (not (is_nan x)) (fits_widens x c.row_known-1.given) (rw c.if-is_nan.false at c.is_nan.ensures.not_nan)

pub returns-then-is_nan : goal.returns-then-is_nan
unfolding eq
returns-then-is_nan c = rw (is_nan_only c.args.x (sym c.is_nan.ensures.value ∙ c.if-is_nan.true)) c.if-is_nan.true

pub returns-else-is_nan : goal.returns-else-is_nan
unfolding ne
returns-else-is_nan c = refl
