use mathlib.Core.Path.{◌≡◌}
use Rattle.links.specs.Links.{net}
use Rattle.model.proofs.Placing.{placed}
use Rattle.circuit.proofs.Unplaced.{unplaced as unplaced_gates}
use Rattle.circuit.proofs.rings.ordered.Given as goal

abbrev pub invariant-loop-k : goal.invariant-loop-k
invariant-loop-k l = l.unplaced ≡ unplaced_gates (placed (net l.links) l._k)
