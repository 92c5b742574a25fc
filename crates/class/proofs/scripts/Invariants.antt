use Rattle.class.specs.Call.{call_of, left_of}
use Rattle.class.specs.Scripts.{SoFar}
use lib.ListN.{length}
use mathlib.Core.Path.{◌≡◌}
use Prim.Native.Nat.{ℕ}
use Rattle.class.proofs.scripts.Given as goal

abbrev pub invariant-loop-i : goal.invariant-loop-i
invariant-loop-i l = (length l.log ≡ length l.initial.log) × (length l.values ≡ length l.initial.values) × (length l.units ≡ length l.initial.units) × (length l.delays ≡ length l.initial.delays)
    × (length {A = ℕ} l.told ≡ length {A = ℕ} l.initial.told)
    × SoFar (call_of l.circuit l.book l.initial.log l.initial.values l.initial.units l.initial.delays l.initial.told) l.size l.i (left_of l.log l.values l.units l.delays l.told)
