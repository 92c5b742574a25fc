use Rattle.delays.specs.States.{under_way}
use Rattle.model.specs.Delays.{drop_due}
use Rattle.model.specs.State.{idle}
use mathlib.Core.Path.{◌≡◌}
use Prim.Native.Nat.{◌+◌, ◌≤◌}
use Rattle.delays.proofs.fires.Fires.drop_due.Given as goal

abbrev pub invariant-loop-self : goal.invariant-loop-self
invariant-loop-self l = (l.self.seconds ≡ l.initial.self.seconds) × (l.self.count + l.self.fired ≤ 32)
    × (drop_due idle (under_way l.self.seconds l.self.count l.self.first l.self.words) l.self.fired ≡ drop_due idle (under_way l.initial.self.seconds l.initial.self.count l.initial.self.first l.initial.self.words) 0)

abbrev pub decreases-loop-self : goal.decreases-loop-self
decreases-loop-self l = l.self.count
