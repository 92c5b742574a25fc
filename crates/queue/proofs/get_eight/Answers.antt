use Rattle.queue.proofs.Slots.{eight_words}
use borrow.Author.Rules.{rules}
use Rattle.queue.proofs.get_eight.Goals as goal

pub returns : goal.returns
returns c = eight_words _ _ _ c.requires (search rules) (search rules)
