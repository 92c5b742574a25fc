use native.Mathlib.Omega.{arith}
use Rattle.size.proofs.Starts.{bytes_are, bytes_fit}
use Rattle.size.proofs.most.log_bytes.Goals as goal

pub overflow_mul-result : goal.overflow_mul-result
overflow_mul-result c = omega (arith, bytes_fit c.args.ticks c.outputs.result c.requires c.outputs.ensures.1)

pub overflow_mul-result-2 : goal.overflow_mul-result-2
overflow_mul-result-2 c = omega (arith, bytes_fit c.args.ticks c.outputs.result c.requires c.outputs.ensures.1)

pub returns : goal.returns
returns c = bytes_are _ _ _ c.outputs.ensures.0
