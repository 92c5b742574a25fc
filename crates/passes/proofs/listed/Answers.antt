use Rattle.passes.proofs.Beginning.{listed_waiting, listed_event}
use Rattle.passes.proofs.listed.Goals as goal

pub returns-in-Waiting : goal.returns-in-Waiting
returns-in-Waiting c = λ k es. listed_waiting k es _ _ c.in-Waiting.is

pub returns-in-Event : goal.returns-in-Event
returns-in-Event c = λ k es. listed_event k es _ _ _ _ c.in-Event.is c.gate_of.ensures c.entry.ensures
