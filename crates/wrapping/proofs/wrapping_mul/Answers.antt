use Rattle.std.proofs.Common.{refl}
use Rattle.wrapping.proofs.Halves.{lower_product}
use Rattle.wrapping.proofs.wrapping_mul.Goals as goal

pub returns : goal.returns
returns c = lower_product _ _ _ _ refl refl
