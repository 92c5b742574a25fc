use borrow.Author.Rules.{rules}
use Rattle.unit.proofs.Entering.{event_eight, row_first, row_next, row_last}
use Rattle.unit.proofs.set_event.Goals as goal

pub loop-j-init : goal.loop-j-init
loop-j-init c = (search rules, row_first _ _ _ _)

pub loop-j-preserved : goal.loop-j-preserved
loop-j-preserved c = (search rules, row_next _ _ _ _ _ _ _ _ (event_eight _ _ _ (search rules) (search rules)) c.loop-j-test.true (c.event_value-v.ensures _) c.set_out.ensures c.loop-j.invariant.1)

pub returns : goal.returns
returns c = row_last _ _ _ _ _ _ (event_eight _ _ _ (search rules) (search rules)) c.loop-j-test.false c.loop-j.invariant.1
