use native.Mathlib.Omega.{arith}
use borrow.Author.Rules.{rules}
use Rattle.model.specs.Record.{begun_count}
use Rattle.walk.proofs.Outputs.{head_there}
use Rattle.whole.proofs.head.begun_count.Goals as goal

pub word-requires : goal.word-requires
word-requires c = (head_there _ _ c.requires, search rules)

pub word-requires-2 : goal.word-requires-2
word-requires-2 c = (head_there _ _ c.requires, search rules)

pub overflow_add-result : goal.overflow_add-result
unfolding begun_count
overflow_add-result c = let e = c.word.ensures in let f = c.word-2.ensures in let h = c.requires.begun in omega (arith, e, f, h)

pub returns : goal.returns
unfolding begun_count
returns c = let e = c.word.ensures in let f = c.word-2.ensures in let h = c.requires.begun in (omega (arith, e, f), omega (arith, e, f, h))
