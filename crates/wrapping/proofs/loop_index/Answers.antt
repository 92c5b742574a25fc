use Rattle.std.proofs.Common.{refl}
use Rattle.wrapping.proofs.Signed.{index_found}
use Rattle.wrapping.proofs.loop_index.Goals as goal

pub returns : goal.returns
returns c = index_found _ _ _ _ _ c.ranges.first c.ranges.step c.wrapping_mul.ensures refl
