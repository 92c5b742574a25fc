use borrow.Author.Rules.{rules}
use Rattle.logging.proofs.Turns.{row_first, row_next, row_last}
use Rattle.logging.proofs.write_row.Goals as goal

pub loop-i-init : goal.loop-i-init
loop-i-init g c = (search rules, row_first _ _ _ _)

pub loop-i-preserved : goal.loop-i-preserved
loop-i-preserved g c = (search rules, row_next _ _ c.loop-i-test.true c.word.ensures c.put.ensures c.loop-i.invariant.1)

pub returns : goal.returns
returns g c = row_last _ _ c.loop-i-test.false c.loop-i.invariant.1
