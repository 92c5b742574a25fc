use Rattle.packed.specs.Tally.{with_right, one_more}
use Rattle.std.proofs.Common.{refl}
use Rattle.packed.proofs.tally.Tally.with_right.Goals as goal

pub returns : goal.returns
unfolding with_right one_more
returns c = refl
