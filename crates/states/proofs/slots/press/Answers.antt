use Rattle.states.proofs.Stores.{press_restart, press_other, slot_long, bit_is}
use borrow.Author.Rules.{rules}
use Rattle.states.proofs.slots.press.Goals as goal

pub returns-then-p-eq0 : goal.returns-then-p-eq0
returns-then-p-eq0 c = press_restart _ _ _ _ (slot_long _ (search rules)) c.if-p-eq0.true c.put.ensures.words c.put-then-p-eq0.ensures.words

pub returns : goal.returns
returns c = press_other _ _ _ _ (slot_long _ (search rules)) c.if-p-eq0.false (bit_is _ _ c.from.ensures) c.put-2.ensures.words
