use Rattle.wires.proofs.Pulsing.{lower_falls, lower_stays}
use Rattle.wires.proofs.pulses.lower.Goals as goal

pub returns-then-has_ended : goal.returns-then-has_ended
returns-then-has_ended c = lower_falls _ _ _ _ _ _ c.raised_at-at.ensures c.get.ensures c.has_ended.ensures _ _ c.if-has_ended.true c.end_pulse.ensures c.set_out.ensures

pub returns-else-has_ended : goal.returns-else-has_ended
returns-else-has_ended c = lower_stays _ _ _ _ _ _ c.raised_at-at.ensures c.get.ensures c.has_ended.ensures c.if-has_ended.false
