use Prim.Native.Nat.{◌+◌, ◌-◌}
use mathlib.Core.List.{map}
use mathlib.Core.Path.{◌≡◌}
use lib.Seq.{sets}
use Rattle.words.specs.Words.{words}
use Rattle.model.specs.Base.{from}
use Rattle.linking.specs.Building.{written, below, ins_at, outs_at, gate_cell}
use Rattle.linking.proofs.gates.write_gates.Given as goal

abbrev pub invariant-loop-g : goal.invariant-loop-g
invariant-loop-g l = (l.inputs ≡ below (ins_at (words l.gates.circuit.now) l.gates.kinds) l.g)
    × (l.outputs ≡ below (outs_at (words l.gates.circuit.now) l.gates.kinds) l.g)
    × (sets l.cells (l.base + l.g) (map (gate_cell (words l.gates.circuit.now) l.gates.kinds l.gates.count l.entries) (from l.g (l.gates.count - l.g))) ≡ written l.initial.cells l.base l.gates.count (gate_cell (words l.gates.circuit.now) l.gates.kinds l.gates.count l.entries))
