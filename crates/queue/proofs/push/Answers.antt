use Rattle.words.proofs.Laws.{words_long}
use Rattle.queue.proofs.Laws.{push_room, push_full}
use borrow.Author.Rules.{rules}
use Rattle.queue.proofs.push.Goals as goal

pub returns-then-count-lt-SLOTS : goal.returns-then-count-lt-SLOTS
returns-then-count-lt-SLOTS c = push_room _ _ _ _ _ _ _ (words_long 2 _ (search rules)) c.count_of-count.ensures c.if-count-lt-SLOTS.true c.first_of.ensures c.store.ensures c.put.ensures.words

pub returns-else-count-lt-SLOTS : goal.returns-else-count-lt-SLOTS
returns-else-count-lt-SLOTS c = push_full _ _ _ _ c.count_of-count.ensures c.if-count-lt-SLOTS.false
