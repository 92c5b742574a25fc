use Prim.Native.Nat.{suc, ◌≤◌}
use mathlib.Core.Path.{◌≡◌}
use lib.Dec.{eqb}
use Rattle.model.specs.Circuit.{names, body_of_gate}
use Rattle.model.specs.Questions.{has_entry}
use Rattle.links.specs.Links.{net}
use Rattle.circuit.proofs.Nested.{one_from}
use Rattle.circuit.proofs.bodies.has_entry.Given as goal

abbrev pub invariant-loop-e : goal.invariant-loop-e
invariant-loop-e l = (l.entries ≤ l.e)
    × (one_from (names (net l.links).kinds (net l.links).stored (net l.links).first_input l.g) (λ e. eqb (body_of_gate (net l.links) e) (suc l.g)) l.n l.entries l.e ≡ has_entry (net l.links) l.g)
