use Prim.Native.Nat.{◌+◌, ◌-◌}
use mathlib.Core.List.{map}
use mathlib.Core.Path.{◌≡◌}
use lib.Seq.{sets}
use Rattle.words.specs.Words.{words}
use Rattle.linking.specs.Building.{chain, chain_at, target}
use Rattle.linking.proofs.chains.Chains.write_one.Given as goal

abbrev pub invariant-loop-n : goal.invariant-loop-n
invariant-loop-n l = sets l.cells (l.base + l.n) (map (target (words l.circuit) l.targets) (chain l.self.next (640 - l.n) l.p)) ≡ sets l.initial.cells l.base (map (target (words l.circuit) l.targets) (chain_at l.self l.o))
