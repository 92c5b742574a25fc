use Rattle.model.specs.Circuit.{part}
use Rattle.words.specs.Words.{words}
use lib.ListN.{length, take}
use mathlib.Core.Path.{◌≡◌}
use Rattle.states.proofs.slots.load_places.Given as goal

abbrev pub invariant-loop-i : goal.invariant-loop-i
invariant-loop-i l = (length l.places ≡ 32) × (take l.i l.places ≡ take l.i (part (words l.slot) 11 32))
