use Rattle.units.proofs.Ticks.{rest_cleared}
use Rattle.units.proofs.raising.clear_rest.Goals as goal

pub returns : goal.returns
returns c = λ k. rest_cleared k _ _ _ _ _ _ c.put.ensures c.put-2.ensures c.put-3.ensures c.put-4.ensures c.put-5.ensures
