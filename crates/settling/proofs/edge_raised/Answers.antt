use native.Mathlib.Omega.{arith}
use Rattle.settling.proofs.Changes.{rising_hits, falling_hits, raise_hits, raise_stays}
use Rattle.settling.proofs.edge_raised.Goals as goal

pub returns-in-Rising : goal.returns-in-Rising
returns-in-Rising c = raise_hits _ _ _ _ c.edge_of-e.ensures 0 _ (omega arith) (rising_hits _ c.in-Rising.is) c.entry.ensures

pub returns-in-Falling : goal.returns-in-Falling
returns-in-Falling c = raise_hits _ _ _ _ c.edge_of-e.ensures 1 _ (omega arith) (falling_hits _ c.in-Falling.is) c.entry-in-Falling.ensures

pub returns-in-Level : goal.returns-in-Level
returns-in-Level c = raise_stays _ _ _ _ c.edge_of-e.ensures c.in-Level.is
