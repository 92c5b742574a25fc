use Rattle.queue.proofs.Slots.{loaded}
use Rattle.queue.proofs.load.Goals as goal

pub returns : goal.returns
returns c = loaded _ _ _ _ _ _ _ c.get_eight-kinds.ensures c.get_eight-contents.ensures c.get.ensures c.of_word-left.ensures
