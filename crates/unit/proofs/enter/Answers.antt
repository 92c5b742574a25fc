use Rattle.unit.proofs.Entering.{enter_waiting, enter_event}
use Rattle.unit.proofs.enter.Goals as goal

pub returns-in-Waiting : goal.returns-in-Waiting
returns-in-Waiting c = enter_waiting _ _ _ _ _ _ c.in-Waiting.is c.enter_waiting.ensures

pub returns-in-Event : goal.returns-in-Event
returns-in-Event c = enter_event _ _ _ _ _ _ c.in-Event.is c.enter_event.ensures
