use mathlib.Core.Path.{◌≡◌}
use lib.ListN.{length, get_or}
use Rattle.model.specs.Base.{each}
use Rattle.links.specs.Links.{net, gates_of_word}
use Rattle.size.specs.Numbers.{numbered}
use Rattle.size.proofs.numbers.number_gates.Given as goal

abbrev pub invariant-loop-g : goal.invariant-loop-g
invariant-loop-g l = (length l.numbers ≡ length l.initial.numbers) × (l.g ≡ get_or (gates_of_word l.word) 0 64) × (each (numbered (net l.links)) l.numbers (gates_of_word l.word) ≡ each (numbered (net l.links)) l.initial.numbers (gates_of_word l.gates))

abbrev pub decreases-loop-g : goal.decreases-loop-g
decreases-loop-g l = length (gates_of_word l.word)
