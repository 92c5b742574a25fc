use mathlib.Core.Path.{◌≡◌}
use Prim.Native.Nat.{◌+◌}
use Rattle.words.specs.Words.{words}
use mathlib.Core.List.{map}
use lib.ListN.{get_or}
use Rattle.model.specs.Base.{among, from}
use Rattle.units.proofs.Sending.{Scan}
use Rattle.units.proofs.events.sent_by.Given as goal

abbrev pub invariant-loop-i : goal.invariant-loop-i
invariant-loop-i l = Scan (words l.units) l.a l.n l.g l.i ≡ among l.g (map (λ k. get_or (words l.units) (2380 + k) 0) (from l.a l.n))
