use Rattle.states.proofs.Stores.{fly_empty, fly_moves}
use borrow.Author.Rules.{rules}
use Rattle.states.proofs.slots.fly.Goals as goal

pub returns-then-get-eq0 : goal.returns-then-get-eq0
returns-then-get-eq0 c = fly_empty _ _ _ _ _ c.get.ensures c.if-get-eq0.true

pub returns : goal.returns
returns c = fly_moves _ _ _ _ _ _ _ _ _ _ (search rules) c.load_buffer-b.ensures c.setting.ensures c.setting-2.ensures c.advance-next.ensures c.store_buffer.ensures
