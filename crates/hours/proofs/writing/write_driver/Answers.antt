use Rattle.hours.proofs.Lines.{lines_first, lines_next, lines_last}
use borrow.Author.Rules.{rules}
use Rattle.hours.proofs.writing.write_driver.Goals as goal

pub loop-a-init : goal.loop-a-init
loop-a-init c = (search rules, lines_first _ _ _ _ _)

pub loop-a-preserved : goal.loop-a-preserved
loop-a-preserved c = (search rules, lines_next _ _ _ _ _ c.loop-a.invariant.1 c.spent.ensures c.write_line.ensures)

pub returns : goal.returns
returns c = lines_last _ _ _ _ _ c.loop-a.auto.a-end c.loop-a-test.false c.loop-a.invariant.1
