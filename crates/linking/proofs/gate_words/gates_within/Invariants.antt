use Prim.Native.Nat.{◌+◌}
use mathlib.Core.Path.{◌≡◌}
use lib.ListN.{get_or}
use Rattle.words.specs.Words.{words}
use Rattle.linking.specs.Building.{below, gate_bit}
use Rattle.linking.proofs.gate_words.gates_within.Given as goal

abbrev pub invariant-loop-g : goal.invariant-loop-g
invariant-loop-g l = l.found ≡ below (λ h. gate_bit l.low l.high (get_or (words l.gates.circuit.now) (l.gates.kinds + h) 0) h) l.g
