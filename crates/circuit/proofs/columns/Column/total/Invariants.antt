use Prim.Native.Nat.{ℕ, ◌*◌, ◌≤◌}
use mathlib.Core.Path.{◌≡◌}
use mathlib.Core.Bool.{Bool}
use mathlib.Core.List.{map}
use Rattle.std.specs.Prelude.{Option}
use Rattle.std.specs.Bool.{then_some}
use Rattle.words.specs.Words.{words}
use Rattle.model.specs.Base.{all, sum}
use Rattle.model.specs.Circuit.{part}
use Rattle.circuit.proofs.Loops.{left, tally}
use Rattle.circuit.proofs.columns.Column.total.Given as goal

abbrev pub invariant-loop-i : goal.invariant-loop-i
invariant-loop-i g l =
    (l.total ≤ 64 * l.i)
    × ((p : ℕ → Bool) (f : ℕ → ℕ) → ((w : ℕ) (n : Option ℕ) → goal.F-post g l.counted w n → n ≡ then_some (p w) (f w)) →
    tally p f l.total (left (words l.self.area.now) l.self.first l.self.count l.i) ≡ then_some (all p (part (words l.self.area.now) l.self.first l.self.count)) (sum (map f (part (words l.self.area.now) l.self.first l.self.count))))
