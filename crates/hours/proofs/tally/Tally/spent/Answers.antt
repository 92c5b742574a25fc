use Rattle.hours.proofs.Passing.{up_at, product_fits}
use native.Mathlib.Omega.{arith}
use Rattle.hours.proofs.tally.Tally.spent.Goals as goal

pub overflow_mul-result : goal.overflow_mul-result
overflow_mul-result c = let h = product_fits _ c.args.len (up_at _ _ c.requires.0 c.args.i) c.requires.2 in omega (arith, h)
