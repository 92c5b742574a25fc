use Prim.Native.Nat.{ℕ, ◌<◌}
use mathlib.Core.Path.{◌≡◌}
use mathlib.Core.Bool.{Bool}
use mathlib.Core.List.{map}
use Rattle.std.specs.Prelude.{Option}
use Rattle.std.specs.Bool.{then_some}
use Rattle.model.specs.Base.{keep, from}
use Rattle.figures.specs.Figures.{greatest}
use Rattle.circuit.proofs.Turns.{each_from}
use Rattle.size.proofs.Starts.{picked}
use Rattle.size.proofs.most.greatest.Given as goal

abbrev pub invariant-loop-i : goal.invariant-loop-i
invariant-loop-i g l =
    (p : ℕ → Bool) (f : ℕ → ℕ) → ((i : ℕ) (x : Option ℕ) → i < l.n → goal.F-post g l.number i x → x ≡ then_some (p i) (f i)) →
    each_from (picked p f) 0 l.n l.most l.i ≡ greatest (map f (keep p (from 0 l.n)))
