use Rattle.play.specs.Outputs.{outputs_from}
use Rattle.words.specs.Words.{words}
use mathlib.Core.Path.{◌≡◌}
use Prim.Native.Nat.{◌+◌, ◌-◌, ◌*◌, ◌≤◌}
use Rattle.play.proofs.outputs.outputs.Given as goal

abbrev pub invariant-loop-g : goal.invariant-loop-g
invariant-loop-g l = (l.total ≤ 9 * l.g) × (l.total + outputs_from (words l.circuit) (l.first + l.g) (l.gates - l.g) ≡ outputs_from (words l.circuit) l.first l.gates)
