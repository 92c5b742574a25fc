use Rattle.hours.proofs.Passing.{up_at}
use Rattle.hours.specs.Tally.{more}
use native.Mathlib.Omega.{arith}
use borrow.Author.Rules.{rules}
use Rattle.hours.proofs.tally.Tally.more.Goals as goal

pub overflow_add-self : goal.overflow_add-self
overflow_add-self c = let h = up_at _ _ c.requires.0 c.args.i in omega (arith, h)

pub returns : goal.returns
unfolding more
returns c = search rules
