use Rattle.queue.proofs.Slots.{stored_slot}
use borrow.Author.Rules.{rules}
use Rattle.queue.proofs.store.Goals as goal

pub returns : goal.returns
returns c = stored_slot _ _ _ _ _ _ c.args.r c.requires.0 c.requires.1 (search rules) (search rules) c.put_row.ensures.area_value c.put_row-2.ensures.area_value c.word.ensures.1 c.put.ensures.words
