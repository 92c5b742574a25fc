use mathlib.Core.Path.{◌≡◌}
use Rattle.model.specs.Base.{each, from}
use Rattle.links.specs.Links.{net}
use Rattle.circuit.specs.Gates.{with_source}
use Rattle.circuit.proofs.Turns.{each_from}
use Rattle.circuit.proofs.rings.awaited.Given as goal

abbrev pub invariant-loop-p : goal.invariant-loop-p
invariant-loop-p l = each_from (with_source (net l.links)) l.first l.n l.word l.p ≡ each (with_source (net l.links)) 0 (from l.first l.n)
