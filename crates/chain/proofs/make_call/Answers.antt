use Rattle.chain.proofs.Fits.{held_fit}
use Rattle.chain.proofs.Turns.{call_fires, call_ends, call_full}
use Rattle.chain.proofs.make_call.Goals as goal

pub returns-in-Ok-Some-clause-over_all : goal.returns-in-Ok-Some-clause-over_all
returns-in-Ok-Some-clause-over_all c = call_fires _ _ _ _ _ _ _ c.exec.ensures.over_all _ _ c.in-Ok-Some.is c.in-Ok-Some.field-0-is _ _ (c.fire_output.ensures _ _)

pub returns-in-Ok-None-clause-over_all : goal.returns-in-Ok-None-clause-over_all
returns-in-Ok-None-clause-over_all c = call_ends _ _ _ _ _ _ _ c.exec.ensures.over_all (held_fit _ _) _ c.in-Ok-None.is c.in-Ok-None.field-0-is

pub returns-in-Err-clause-over_all : goal.returns-in-Err-clause-over_all
returns-in-Err-clause-over_all c = call_full _ _ _ _ _ _ _ c.exec.ensures.over_all c.in-Err.is
