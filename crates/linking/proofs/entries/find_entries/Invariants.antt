use mathlib.Core.Path.{◌≡◌}
use Rattle.words.specs.Words.{words}
use Rattle.linking.specs.Building.{below, ins_at, named_by, entered}
use Rattle.linking.proofs.entries.find_entries.Given as goal

abbrev pub invariant-loop-e : goal.invariant-loop-e
invariant-loop-e l = (l.i ≡ below (ins_at (words l.gates.circuit.now) l.gates.kinds) l.e)
    × (entered (named_by (words l.gates.circuit.now) l.gates.kinds l.stored l.constants) l.e l.entries ≡ entered (named_by (words l.gates.circuit.now) l.gates.kinds l.stored l.constants) l.gates.count l.initial.entries)
