use Rattle.states.proofs.Stores.{input_moves}
use borrow.Author.Rules.{rules}
use Rattle.states.proofs.slots.input.Goals as goal

pub returns : goal.returns
returns c = input_moves _ _ _ _ _ _ _ (search rules) c.load_buffer-b.ensures c.input-next.ensures c.store_buffer.ensures
