use mathlib.Core.Path.{◌≡◌}
use lib.ListN.{length}
use Rattle.links.specs.Links.{net}
use Rattle.units.proofs.Ticks.{Moved}
use Rattle.units.proofs.raising.file_carried.Given as goal

-- The first k are filed.
abbrev pub invariant-loop-k : goal.invariant-loop-k
invariant-loop-k l = (length l.units ≡ length l.initial.units) × Moved (net l.links) l.initial.units l.units l.k
