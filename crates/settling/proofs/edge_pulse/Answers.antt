use Rattle.settling.proofs.Changes.{rising_hits, falling_hits, pulse_hits, pulse_stays}
use Rattle.settling.proofs.edge_pulse.Goals as goal

pub returns-in-Rising : goal.returns-in-Rising
returns-in-Rising c = pulse_hits _ _ _ _ _ _ c.edge_of-e.ensures _ _ _ (rising_hits _ c.in-Rising.is) c.output.ensures c.pulse.ensures

pub returns-in-Falling : goal.returns-in-Falling
returns-in-Falling c = pulse_hits _ _ _ _ _ _ c.edge_of-e.ensures _ _ _ (falling_hits _ c.in-Falling.is) c.output-in-Falling.ensures c.pulse-in-Falling.ensures

pub returns-in-Level : goal.returns-in-Level
returns-in-Level c = pulse_stays _ _ _ _ _ _ c.edge_of-e.ensures c.in-Level.is
