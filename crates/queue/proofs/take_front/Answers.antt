use Rattle.words.proofs.Laws.{words_long}
use Rattle.queue.proofs.Laws.{take_none, take_later, take_due}
use borrow.Author.Rules.{rules}
use mathlib.Core.Path.{ap}
use mathlib.Core.Bool.{not}
use Rattle.queue.proofs.take_front.Goals as goal

pub returns-then-count-eq0 : goal.returns-then-count-eq0
returns-then-count-eq0 c =
    let h = take_none _ _ _ c.count_of-count.ensures c.if-count-eq0.true in
    record { queue_value = h.0; front_value = h.1 }

pub returns-then-not-due : goal.returns-then-not-due
returns-then-not-due c =
    let h = take_later _ _ _ _ _ _ _ c.count_of-count.ensures c.if-count-eq0.false c.first_of-first.ensures c.get.ensures c.of_word-left.ensures c.due.ensures (ap not c.if-not-due.true) in
    record { queue_value = h.0; front_value = h.1 }

pub returns : goal.returns
returns c =
    let h = take_due _ _ _ _ _ _ _ _ _ _ (words_long 2 _ (search rules)) c.count_of-count.ensures c.if-count-eq0.false c.first_of-first.ensures c.get.ensures c.of_word-left.ensures c.due.ensures (ap not c.if-not-due.false) c.load-front.ensures c.put.ensures.words c.put-2.ensures.words in
    record { queue_value = h.0; front_value = h.1 }
