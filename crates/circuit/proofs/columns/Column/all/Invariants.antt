use Prim.Native.Nat.{ℕ}
use mathlib.Core.Path.{◌≡◌}
use mathlib.Core.Bool.{Bool}
use Rattle.words.specs.Words.{words}
use Rattle.model.specs.Base.{all}
use Rattle.model.specs.Circuit.{part}
use Rattle.circuit.proofs.Loops.{left}
use Rattle.circuit.proofs.columns.Column.all.Given as goal

abbrev pub invariant-loop-i : goal.invariant-loop-i
invariant-loop-i g l =
    (p : ℕ → Bool) → ((w : ℕ) (t : Bool) → goal.F-post g l.passes w t → t ≡ p w) →
    all p (left (words l.self.area.now) l.self.first l.self.count l.i) ≡ all p (part (words l.self.area.now) l.self.first l.self.count)
