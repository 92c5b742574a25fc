use native.Mathlib.Omega.{arith}
use Rattle.hours.specs.Hours.{minutes}
use Rattle.hours.proofs.minutes.minutes.Goals as goal

pub returns-then-ms-lt-HALF_MINUTE : goal.returns-then-ms-lt-HALF_MINUTE
unfolding minutes
returns-then-ms-lt-HALF_MINUTE c = let h = c.if-ms-lt-HALF_MINUTE.true in omega (arith, h)

pub returns-else-ms-lt-HALF_MINUTE : goal.returns-else-ms-lt-HALF_MINUTE
unfolding minutes
returns-else-ms-lt-HALF_MINUTE c = let h = c.if-ms-lt-HALF_MINUTE.false in omega (arith, h)
