use Prim.Native.Nat.{◌+◌, ◌-◌}
use mathlib.Core.List.{map}
use mathlib.Core.Path.{◌≡◌}
use lib.Seq.{sets}
use Rattle.words.specs.Words.{words}
use Rattle.model.specs.Base.{joined, from}
use Rattle.linking.specs.Building.{below, outs_at, output_cells}
use Rattle.links.specs.Links.{listed}
use Rattle.linking.proofs.gates.write_outputs.Given as goal

abbrev pub invariant-loop-g : goal.invariant-loop-g
invariant-loop-g l = (l.done ≡ below (outs_at (words l.gates.circuit.now) l.gates.kinds) l.g)
    × (sets l.cells (l.base + l.done) (joined (map (output_cells (words l.gates.circuit.now) l.gates.kinds) (from l.g (l.gates.count - l.g)))) ≡ sets l.initial.cells l.base (joined (listed l.gates.count (output_cells (words l.gates.circuit.now) l.gates.kinds))))
