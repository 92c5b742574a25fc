use Rattle.floats.proofs.Ints.{minus_fits, sign_plus, sign_minus}
use Rattle.floats.proofs.with_sign.Goals as goal

pub overflow_sub-result : goal.overflow_sub-result
overflow_sub-result c = minus_fits c.args.n c.requires

pub returns-then-bits-lt-SIGN : goal.returns-then-bits-lt-SIGN
returns-then-bits-lt-SIGN c = sign_plus c.args.bits c.args.n c.requires c.if-bits-lt-SIGN.true

pub returns-else-bits-lt-SIGN : goal.returns-else-bits-lt-SIGN
returns-else-bits-lt-SIGN c = sign_minus c.args.bits c.args.n c.requires c.if-bits-lt-SIGN.false
