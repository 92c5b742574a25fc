use Rattle.packed.specs.Tally.{with_cut}
use Rattle.std.proofs.Common.{refl}
use Rattle.packed.proofs.tally.Tally.with_cut.Goals as goal

pub returns : goal.returns
unfolding with_cut
returns c = refl
