use Rattle.settling.proofs.Turns.{next_idle, next_calm, next_entry, next_put_off, next_ranked}
use Rattle.settling.proofs.check_next.Goals as goal

pub returns-then-late-clause-over_all : goal.returns-then-late-clause-over_all
returns-then-late-clause-over_all c = next_put_off _ _ _ _ _ _ _ c.take_check-next.ensures.value c.take_check-next.ensures.turns _ _ _ _ _ c.in-Some.is c.check-raised.ensures.over_values_delays _ _ _ _ c.in-MayWait.is c.if-late.true c.put_off.ensures c.file-then-late.ensures

pub returns-in-None-clause-over_all : goal.returns-in-None-clause-over_all
returns-in-None-clause-over_all c = next_idle _ _ _ _ _ _ _ c.take_check-next.ensures.value c.take_check-next.ensures.turns c.in-None.is

pub returns-in-Nothing-clause-over_all : goal.returns-in-Nothing-clause-over_all
returns-in-Nothing-clause-over_all c = next_calm _ _ _ _ _ _ _ c.take_check-next.ensures.value c.take_check-next.ensures.turns _ _ _ _ _ c.in-Some.is c.check-raised.ensures.over_values_delays c.in-Nothing.is

pub returns-in-Entry-clause-over_all : goal.returns-in-Entry-clause-over_all
returns-in-Entry-clause-over_all c = next_entry _ _ _ _ _ _ _ c.take_check-next.ensures.value c.take_check-next.ensures.turns _ _ _ _ _ c.in-Some.is c.check-raised.ensures.over_values_delays _ _ _ c.in-Entry.is c.file.ensures

pub returns-else-late-clause-over_all : goal.returns-else-late-clause-over_all
returns-else-late-clause-over_all c = next_ranked _ _ _ _ _ _ _ c.take_check-next.ensures.value c.take_check-next.ensures.turns _ _ _ _ _ c.in-Some.is c.check-raised.ensures.over_values_delays _ _ _ c.in-MayWait.is c.if-late.false c.file-in-MayWait.ensures
