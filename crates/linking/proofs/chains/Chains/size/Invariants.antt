use Prim.Native.Nat.{◌+◌, ◌-◌}
use mathlib.Core.Path.{◌≡◌}
use lib.ListN.{length}
use Rattle.linking.specs.Building.{chain, size_at}
use Rattle.linking.proofs.chains.Chains.size.Given as goal

abbrev pub invariant-loop-n : goal.invariant-loop-n
invariant-loop-n l = l.n + length (chain l.self.next (640 - l.n) l.p) ≡ size_at l.self l.o
