use Prim.Native.Nat.{◌+◌}
use mathlib.Core.Path.{◌≡◌}
use Rattle.words.specs.Words.{words}
use Rattle.model.specs.Base.{both}
use Rattle.model.specs.Circuit.{part}
use Rattle.model.specs.Questions.{good_constant, yes_all}
use Rattle.circuit.proofs.Loops.{pairs}
use Rattle.circuit.proofs.constants.good_constants.Given as goal

abbrev pub invariant-loop-i : goal.invariant-loop-i
invariant-loop-i l = pairs good_constant l.circuit 4 (4 + l.count) l.count l.i ≡ yes_all (both good_constant (part (words l.circuit) 4 l.count) (part (words l.circuit) (4 + l.count) l.count))
