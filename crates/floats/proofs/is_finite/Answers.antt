use Rattle.floats.proofs.Bits.{finite_is}
use Rattle.floats.proofs.is_finite.Goals as goal

pub returns : goal.returns
returns c = finite_is c.args.bits
