use Rattle.replay.proofs.ClassEnding.{byte_filled, byte_zero}
use Rattle.replay.proofs.class_due.area_byte.Goals as goal

pub returns-then-due-eq0 : goal.returns-then-due-eq0
returns-then-due-eq0 c = byte_filled _ c.if-due-eq0.true

pub returns-else-due-eq0 : goal.returns-else-due-eq0
returns-else-due-eq0 c = byte_zero _ c.if-due-eq0.false
