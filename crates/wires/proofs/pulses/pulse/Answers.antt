use Rattle.wires.proofs.Pulsing.{pulsed}
use Rattle.wires.proofs.pulses.pulse.Goals as goal

pub returns : goal.returns
returns c = pulsed _ _ _ _ _ c.set_out.ensures c.set_pulse.ensures
