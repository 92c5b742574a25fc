use Prim.Native.Nat.{◌+◌, ◌-◌, ◌*◌, ◌≤◌}
use mathlib.Core.List.{map}
use mathlib.Core.Path.{◌≡◌}
use lib.Seq.{sets}
use Rattle.words.specs.Words.{words}
use Rattle.model.specs.Base.{joined, from}
use Rattle.linking.specs.Building.{chain_at, target}
use Rattle.links.specs.Links.{listed}
use Rattle.linking.proofs.chains.Chains.write.Given as goal

abbrev pub invariant-loop-o : goal.invariant-loop-o
invariant-loop-o l = (l.done ≤ 640 * l.o)
    × (sets l.cells (l.base + l.done) (joined (map (λ k. map (target (words l.circuit) l.targets) (chain_at l.self k)) (from l.o (l.n - l.o))))
    ≡ sets l.initial.cells l.base (joined (listed l.n (λ k. map (target (words l.circuit) l.targets) (chain_at l.self k)))))
