use native.Mathlib.Omega.{arith}
use borrow.Author.Rules.{rules}
use Rattle.model.specs.Record.{carried_count}
use Rattle.walk.proofs.Outputs.{head_there}
use Rattle.whole.proofs.head.carried_count.Goals as goal

pub word-requires : goal.word-requires
word-requires c = (head_there _ _ c.requires, search rules)

pub returns : goal.returns
unfolding carried_count
returns c = (c.word.ensures, let e = c.word.ensures in let h = c.requires.carried in omega (arith, e, h))
