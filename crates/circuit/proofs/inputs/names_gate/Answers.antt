use Rattle.std.proofs.Common.{rules}
use Rattle.model.specs.Questions.{int_such_that}
use Rattle.circuit.proofs.Asking.{no_int}
use Rattle.links.specs.Links.{net}
use Rattle.model.specs.Circuit.{kind_of_gate}
use lib.Dec.{eqb}
use Rattle.circuit.proofs.inputs.names_gate.Goals as goal

pub returns-in-Int : goal.returns-in-Int
unfolding int_such_that
returns-in-Int c = rw c.in-Int.is (search rules)

pub returns-in_default : goal.returns-in_default
returns-in_default c = no_int (λ g. eqb (kind_of_gate (net c.args.links.now) g) c.args.kind) c.args.v c.in_default.not-Int
