use Rattle.circuit.proofs.Unplaced.{gate_in, gate_out}
use Rattle.circuit.proofs.sets.gate_bit.Goals as goal

pub returns-then-g-lt64 : goal.returns-then-g-lt64
returns-then-g-lt64 c = gate_in _ c.if-g-lt64.true

pub returns-else-g-lt64 : goal.returns-else-g-lt64
returns-else-g-lt64 c = gate_out _ c.if-g-lt64.false
