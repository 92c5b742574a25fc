use Rattle.opening.proofs.Rows.{row_first, row_next, row_last}
use borrow.Author.Rules.{rules}
use Rattle.opening.proofs.moving.set_row.Goals as goal

pub loop-k-init : goal.loop-k-init
loop-k-init c = (search rules, row_first _ _ _ _ _)

pub loop-k-preserved : goal.loop-k-preserved
loop-k-preserved c = let a = c.args in (search rules, row_next _ _ a.kinds a.contents _ _ _ _ _ (search rules) (search rules) c.loop-k.invariant.1 c.loop-k-test.true c.value_of.ensures c.set_out.ensures)

pub returns : goal.returns
returns c = let a = c.args in row_last _ _ a.kinds a.contents _ _ _ (search rules) (search rules) c.loop-k.invariant.1 c.loop-k-test.false
