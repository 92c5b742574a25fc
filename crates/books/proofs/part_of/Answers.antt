use Rattle.books.proofs.Parts.{parts_in, one_in, part_is}
use native.Mathlib.Omega.{arith}
use Rattle.books.proofs.part_of.Goals as goal

pub overflow_mul-result-2 : goal.overflow_mul-result-2
overflow_mul-result-2 c = omega (arith, one_in c.args.n c.args.bytes c.requires.0, c.well_formed)

pub returns : goal.returns
returns c = (part_is _ _, parts_in _ _)
