use Rattle.queue.proofs.Laws.{turn_first, turn_next, turn_last}
use borrow.Author.Rules.{rules}
use Rattle.queue.proofs.count_down.Goals as goal

pub loop-i-init : goal.loop-i-init
loop-i-init c = (search rules, turn_first _ _ _ _ _)

pub loop-i-preserved : goal.loop-i-preserved
loop-i-preserved c = (search rules, turn_next _ _ _ _ _ _ _ _ c.count_of-count.ensures c.loop-i.invariant.1 c.loop-i-test.true c.count_slot.ensures)

pub returns : goal.returns
returns c = turn_last _ _ _ _ _ _ _ c.first_of-first.ensures c.count_of-count.ensures c.loop-i.invariant.1 c.loop-i.auto.i-end c.loop-i-test.false
