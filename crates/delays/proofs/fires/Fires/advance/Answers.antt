use Rattle.delays.proofs.Firing.{advance_drops}
use native.Mathlib.Omega.{arith}
use Rattle.delays.proofs.fires.Fires.advance.Goals as goal

pub returns : goal.returns
returns c = advance_drops _ _ _ _ _ (omega (arith, c.min.ensures)) c.count_down-self.ensures c.drop_due.ensures
