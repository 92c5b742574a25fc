use Rattle.states.proofs.Stores.{launch_stored, slot_long}
use borrow.Author.Rules.{rules}
use Rattle.states.proofs.slots.launch.Goals as goal

pub returns : goal.returns
returns c = launch_stored _ _ _ _ _ _ _ _ _ _ (slot_long _ (search rules)) c.put.ensures.words c.kind_of.ensures c.put-2.ensures.words c.content_of.ensures c.put-3.ensures.words c.word.ensures c.put-4.ensures.words
