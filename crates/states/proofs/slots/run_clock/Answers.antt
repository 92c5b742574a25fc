use Rattle.states.proofs.Stores.{clock_off, clock_on, slot_long}
use borrow.Author.Rules.{rules}
use mathlib.Core.Path.{ap}
use mathlib.Core.Bool.{not}
use Rattle.states.proofs.slots.run_clock.Goals as goal

pub returns-then-not-enabled : goal.returns-then-not-enabled
returns-then-not-enabled c = clock_off _ _ _ _ (ap not c.if-not-enabled.true)

pub returns : goal.returns
returns c = clock_on _ _ _ _ _ _ _ _ (slot_long _ (search rules)) (ap not c.if-not-enabled.false) c.get.ensures c.advance-next.ensures c.put.ensures.words c.put-2.ensures.words
