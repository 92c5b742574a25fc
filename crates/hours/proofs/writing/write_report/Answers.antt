use Rattle.hours.proofs.Lines.{writing_first, writing_next, writing_last}
use borrow.Author.Rules.{rules}
use Rattle.hours.proofs.writing.write_report.Goals as goal

pub loop-i-init : goal.loop-i-init
loop-i-init c = (search rules, writing_first _ _ _ _)

pub loop-i-preserved : goal.loop-i-preserved
loop-i-preserved c = (search rules, writing_next _ _ _ _ _ _ _ _ (search rules) c.loop-i-test.true c.loop-i.invariant.1 c.write_driver.ensures)

pub returns : goal.returns
returns c = writing_last _ _ _ _ _ _ _ _ _ (search rules) c.loop-i.auto.i-end c.loop-i-test.false c.loop-i.invariant.1 c.spent.ensures c.write_line.ensures
