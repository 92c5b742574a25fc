use Prim.Native.Nat.{◌-◌}
use mathlib.Core.Path.{◌≡◌}
use lib.ListN.{length}
use Rattle.model.specs.Circuit.{body_of_gate}
use Rattle.model.specs.Questions.{comes_out}
use Rattle.links.specs.Links.{net}
use Rattle.circuit.proofs.bodies.comes_out.Given as goal

abbrev pub invariant-loop-k : goal.invariant-loop-k
invariant-loop-k l = comes_out (net l.links) (l.n - l._k) l.around ≡ comes_out (net l.links) (length (net l.links).kinds) (body_of_gate (net l.links) l.g)
