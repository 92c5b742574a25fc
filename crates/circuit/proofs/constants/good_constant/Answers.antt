use mathlib.Core.Path.{sym}
use borrow.Author.Tests.{ne_eqb}
use Rattle.model.specs.Base.{if◌then◌otherwise◌}
use Rattle.model.specs.Questions.{good_constant}
use Rattle.circuit.proofs.Loops.{within_zero}
use Rattle.circuit.proofs.constants.good_constant.Goals as goal

-- `circuit::constants::good_constant` meets its contract, by the kind. Assumes nothing.

pub returns-in-1 : goal.returns-in-1
unfolding good_constant if◌then◌otherwise◌
returns-in-1 c = rw c.in-1.is

pub returns-in-2 : goal.returns-in-2
unfolding good_constant if◌then◌otherwise◌
returns-in-2 c = rw c.in-2.is c.is_finite.ensures

pub returns-in-3 : goal.returns-in-3
unfolding good_constant if◌then◌otherwise◌
returns-in-3 c = rw c.in-3.is (sym (within_zero 1 _))

pub returns-in_default : goal.returns-in_default
unfolding good_constant if◌then◌otherwise◌
returns-in_default c = let r = c.in_default.in_default-own.rest in rw (ne_eqb _ 1 r.0.0.1, ne_eqb _ 2 r.0.1, ne_eqb _ 3 r.1)
