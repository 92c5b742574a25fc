use Rattle.delays.proofs.Rings.{ticked_from}
use Rattle.delays.specs.States.{under_way}
use Rattle.model.specs.Delays.{tick_down}
use lib.ListN.{length}
use mathlib.Core.List.{map}
use mathlib.Core.Path.{◌≡◌}
use Rattle.delays.proofs.fires.count_down.Given as goal

abbrev pub invariant-loop-i : goal.invariant-loop-i
invariant-loop-i l = (length l.words ≡ 32) × (ticked_from l.dt l.i (under_way l.seconds l.count l.first l.words) ≡ map (tick_down l.dt) (under_way l.seconds l.count l.first l.initial.words))
