use Rattle.delays.proofs.Firing.{count_first, count_turn, count_last}
use borrow.Author.Rules.{rules}
use Rattle.delays.proofs.fires.count_down.Goals as goal

pub loop-i-init : goal.loop-i-init
loop-i-init c = (search rules, count_first _ _ _ _ _)

pub loop-i-preserved : goal.loop-i-preserved
loop-i-preserved c = (search rules, count_turn _ _ _ _ _ _ _ _ _ _ c.loop-i.invariant.0 c.requires.1 c.loop-i.invariant.1 c.loop-i-test.true c.of_word.ensures c.tick_down.ensures c.word.ensures)

pub returns : goal.returns
returns c = count_last _ _ _ _ _ _ _ c.loop-i.invariant.1 c.loop-i-test.false
