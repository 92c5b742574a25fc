use Rattle.unit.proofs.Entering.{no_event, event_there, some_event}
use borrow.Author.Rules.{rules}
use Rattle.unit.proofs.enter_event.Goals as goal

pub returns-then-events-e : goal.returns-then-events-e
returns-then-events-e c = no_event _ _ _ _ _ _ _ c.brings-e.ensures (c.events.ensures.reads _) c.if-events-e.true

pub set_event-requires : goal.set_event-requires
set_event-requires c = (search rules, search rules, search rules, event_there _ _ _ _ (c.events.ensures.reads _) c.if-events-e.false)

pub returns : goal.returns
returns c = some_event _ _ _ _ _ _ _ _ c.brings-e.ensures c.gate_of.ensures c.output.ensures c.set_event.ensures
