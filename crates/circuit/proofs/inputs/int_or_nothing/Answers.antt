use Rattle.circuit.proofs.Asking.{int_given, no_int_given}
use Rattle.circuit.proofs.inputs.int_or_nothing.Goals as goal

pub returns-in-Nothing : goal.returns-in-Nothing
returns-in-Nothing c = int_given c.args.v c.in-Nothing.is

pub returns-in_default : goal.returns-in_default
returns-in_default c = no_int_given c.args.v c.in_default.not-Nothing c.in_default.not-Int
