use Rattle.std.proofs.Common.{sym}
use Rattle.model.specs.Questions.{int_such_that, within}
use Rattle.circuit.proofs.Asking.{no_int}
use Rattle.circuit.proofs.Loops.{within_zero}
use Rattle.circuit.proofs.inputs.names_channel.Goals as goal

pub returns-in-Int : goal.returns-in-Int
unfolding int_such_that
returns-in-Int c = rw c.in-Int.is (sym (within_zero 255 _))

pub returns-in_default : goal.returns-in_default
returns-in_default c = no_int (within 0 255) c.args.v c.in_default.not-Int
