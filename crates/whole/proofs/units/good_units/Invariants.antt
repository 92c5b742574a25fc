use Prim.Native.Nat.{◌+◌}
use mathlib.Core.Path.{◌≡◌}
use Rattle.words.specs.Words.{words}
use Rattle.model.specs.Record.{listed, units_at}
use Rattle.model.specs.Base.{all}
use Rattle.links.specs.Links.{net}
use Rattle.circuit.proofs.Loops.{pairs}
use Rattle.records.specs.Whole.{good_unit}
use Rattle.whole.proofs.units.good_units.Given as goal

abbrev pub invariant-loop-i : goal.invariant-loop-i
invariant-loop-i l = pairs (λ g f. good_unit (net l.links) (listed g f)) l.log l.k (l.k + l.n) l.n l.i ≡ all (good_unit (net l.links)) (units_at (words l.log) l.k l.n)
