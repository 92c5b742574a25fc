use Rattle.wires.proofs.Recomputing.{look_output, look_stored}
use Rattle.wires.proofs.reading.look.Goals as goal

pub returns-in-Some : goal.returns-in-Some
returns-in-Some c = look_output _ _ _ _ _ c.source.ensures _ c.in-Some.is c.shown.ensures

pub returns-in-None : goal.returns-in-None
returns-in-None c = look_stored _ _ _ _ _ c.source.ensures c.in-None.is c.stored_in.ensures
