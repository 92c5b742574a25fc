use Rattle.std.proofs.Common.{arith}
use Rattle.std.proofs.lemmas.Grind.{common_steps}
use Rattle.model.specs.Base.{if◌then◌otherwise◌}
use Rattle.circuit.proofs.inputs.good_source.Goals as goal

pub returns-then-source-eq-MINUS_ONE : goal.returns-then-source-eq-MINUS_ONE
unfolding if◌then◌otherwise◌
returns-then-source-eq-MINUS_ONE c = grind (arith, common_steps)

pub returns-then-takes_source : goal.returns-then-takes_source
unfolding if◌then◌otherwise◌
returns-then-takes_source c = grind (arith, common_steps)

pub returns-else-takes_source : goal.returns-else-takes_source
unfolding if◌then◌otherwise◌
returns-else-takes_source c = grind (arith, common_steps)
