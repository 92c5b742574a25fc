use Rattle.unit.proofs.Finishing.{stop_full, stop_none}
use Rattle.unit.proofs.stop_of.Goals as goal

pub returns-in-Err : goal.returns-in-Err
returns-in-Err c = stop_full _ c.in-Err.is

pub returns-in-Ok : goal.returns-in-Ok
returns-in-Ok c = stop_none _ c.in-Ok.is
