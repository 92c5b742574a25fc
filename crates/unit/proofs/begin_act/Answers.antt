use Rattle.unit.proofs.Beginning.{begin_waiting, begin_event}
use Rattle.unit.proofs.begin_act.Goals as goal

pub returns-in-Waiting : goal.returns-in-Waiting
returns-in-Waiting c = begin_waiting _ _ _ _ _ _ _ _ c.in-Waiting.is c.gate_of.ensures c.form_of.ensures c.begin.ensures

pub returns-in-Event : goal.returns-in-Event
returns-in-Event c = begin_event _ _ _ _ _ _ _ c.in-Event.is c.gate_of-in-Event.ensures c.begin-in-Event.ensures
