use Rattle.ticks.proofs.Stages.{closes}
use Rattle.ticks.proofs.close.Goals as goal

pub returns-in-Some : goal.returns-in-Some
returns-in-Some c = closes _ _ _ _ _ _ _ _ _ _ _ _ c.read_outputs.ensures c.head-h.ensures c.write_record.ensures.value c.write_record.ensures.writes c.in-Some.is

pub returns-in-None : goal.returns-in-None
returns-in-None c = closes _ _ _ _ _ _ _ _ _ _ _ _ c.read_outputs.ensures c.head-h.ensures c.write_record.ensures.value c.write_record.ensures.writes c.in-None.is
