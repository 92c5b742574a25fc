use mathlib.Core.Path.{◌≡◌}
use lib.ListN.{length}
use Rattle.links.specs.Links.{net}
use Rattle.circuit.proofs.Unplaced.{unplaced as unplaced_gates}
use Rattle.size.proofs.Numbering.{after, NumberedAfter}
use Rattle.size.proofs.numbers.number_all.Given as goal

abbrev pub invariant-loop-k : goal.invariant-loop-k
invariant-loop-k l = (length l.numbers ≡ length l.initial.numbers) × (l.unplaced ≡ unplaced_gates (after (net l.links) l._k)) × NumberedAfter (net l.links) l._k l.numbers
