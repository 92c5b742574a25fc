use Rattle.wires.proofs.Pulsing.{pulse_set, pulse_past}
use Rattle.std.proofs.Common.{refl, rules}
use Rattle.wires.proofs.pulses.set_pulse.Goals as goal

pub returns-then-o-outputs : goal.returns-then-o-outputs
returns-then-o-outputs c = pulse_set _ _ _ _ c.outputs.ensures _ (search rules) c.if-o-outputs.true refl _ _ _ c.get-tick.ensures c.set_bit.ensures c.put.ensures

pub returns-else-o-outputs : goal.returns-else-o-outputs
returns-else-o-outputs c = pulse_past _ _ _ _ c.outputs.ensures _ c.if-o-outputs.false
