use borrow.Author.Rules.{rules}
use Rattle.circuit.proofs.Lengths.{minus_zero, by_bits}
use Rattle.circuit.proofs.script.good_length.Goals as goal

-- `circuit::script::good_length` meets its contract, by the order of the bits. Assumes nothing.

pub returns-then-bits-eq-MINUS_ZERO : goal.returns-then-bits-eq-MINUS_ZERO
returns-then-bits-eq-MINUS_ZERO c = rw c.if-bits-eq-MINUS_ZERO.true minus_zero

pub returns : goal.returns
returns c = by_bits c.args.bits (search rules) c.if-bits-eq-MINUS_ZERO.false
