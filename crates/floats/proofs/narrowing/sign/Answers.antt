use Rattle.floats.proofs.Narrow.{sign_is}
use Rattle.std.proofs.Common.{arith}
use Rattle.floats.proofs.narrowing.sign.Goals as goal

pub returns : goal.returns
returns c = sign_is c.args.bits (omega arith)
