use Prim.Native.Nat.{ℕ, ◌+◌, ◌≤◌}
use mathlib.Core.Path.{◌≡◌}
use mathlib.Core.Bool.{Bool}
use lib.ListN.{length}
use Rattle.words.specs.Words.{words}
use Rattle.model.specs.Base.{keep}
use Rattle.model.specs.Circuit.{part}
use Rattle.circuit.proofs.Loops.{passing}
use Rattle.circuit.proofs.columns.Column.passing.Given as goal

abbrev pub invariant-loop-i : goal.invariant-loop-i
invariant-loop-i g l =
    (l.passed ≤ l.i)
    × ((p : ℕ → Bool) → ((w : ℕ) (t : Bool) → goal.F-post g l.passes w t → t ≡ p w) →
    l.passed + passing p (l.self.area.now) l.self.first l.self.count l.i ≡ length (keep p (part (words l.self.area.now) l.self.first l.self.count)))
