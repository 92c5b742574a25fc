use Prim.Native.Nat.{◌+◌}
use mathlib.Core.Path.{◌≡◌}
use lib.ListN.{get_or}
use Rattle.words.specs.Words.{words}
use Rattle.linking.specs.Building.{no_chains, all_chained}
use Rattle.linking.proofs.chains.Chains.fill_by_keys.Given as goal

abbrev pub invariant-loop-i : goal.invariant-loop-i
invariant-loop-i l = all_chained (λ j. get_or (words l.circuit) (l.keys + j) 0) l.i l.self ≡ all_chained (λ j. get_or (words l.circuit) (l.keys + j) 0) l.n no_chains
