use native.Mathlib.Omega.{arith}
use Rattle.model.specs.Circuit.{word_at}
use Rattle.model.specs.Questions.{question_2}
use Rattle.circuit.proofs.Sized.{sized}
use Rattle.circuit.proofs.constants.constants.Goals as goal

-- `circuit::constants::constants` meets its contract. Question 1 says that the constants are there. Assumes nothing.

pub get-requires : goal.get-requires
get-requires c = omega (arith, sized c.args.circuit.now c.requires)

pub good_constants-requires : goal.good_constants-requires
good_constants-requires c = omega (arith, sized c.args.circuit.now c.requires)

pub returns : goal.returns
unfolding question_2 word_at
returns c = rw (← c.get.ensures) c.good_constants.ensures
