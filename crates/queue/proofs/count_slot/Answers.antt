use Rattle.queue.proofs.Slots.{counted_slot}
use Rattle.queue.proofs.count_slot.Goals as goal

pub returns : goal.returns
returns c = counted_slot _ _ _ _ _ _ _ _ _ c.requires.0 c.requires.1 c.get.ensures c.of_word-left.ensures c.tick_down-next.ensures c.word.ensures.1 c.put.ensures.words
