use Rattle.wires.proofs.Pulsing.{pulse_ended, pulse_down, pulse_past}
use Rattle.std.proofs.Common.{rules}
use Rattle.wires.proofs.pulses.end_pulse.Goals as goal

pub returns-then-d-o-ne0 : goal.returns-then-d-o-ne0
returns-then-d-o-ne0 c = pulse_ended _ _ _ _ c.outputs.ensures _ (search rules) c.if-o-outputs.true c.get-d.ensures _ c.if-d-o-ne0.true c.put.ensures

pub returns-else-d-o-ne0 : goal.returns-else-d-o-ne0
returns-else-d-o-ne0 c = pulse_down _ _ _ _ c.outputs.ensures _ (search rules) c.if-o-outputs.true c.get-d.ensures c.if-d-o-ne0.false

pub returns-else-o-outputs : goal.returns-else-o-outputs
returns-else-o-outputs c = pulse_past _ _ _ _ c.outputs.ensures _ c.if-o-outputs.false
