use mathlib.Core.Path.{◌≡◌}
use Rattle.words.specs.Words.{words}
use Rattle.linking.specs.Building.{below, outs_at}
use Rattle.linking.proofs.gates.count_outputs.Given as goal

abbrev pub invariant-loop-g : goal.invariant-loop-g
invariant-loop-g l = l.outputs ≡ below (outs_at (words l.gates.circuit.now) l.gates.kinds) l.g
