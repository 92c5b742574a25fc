use Rattle.model.specs.Value.{same}
use Rattle.circuit.proofs.Nested.{no_number}
use Rattle.circuit.proofs.bodies.is_number.Goals as goal

-- `circuit::bodies::is_number` meets its contract.

pub returns-in-Int : goal.returns-in-Int
unfolding same
returns-in-Int c = rw c.in-Int.is

pub returns-in_default : goal.returns-in_default
returns-in_default c = no_number c.args.v c.args.g c.in_default.not-Int
