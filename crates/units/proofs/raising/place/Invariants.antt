use Rattle.units.proofs.Ranks.{placed}
use Rattle.links.specs.Links.{net}
use Rattle.words.specs.Words.{words}
use lib.ListN.{length}
use mathlib.Core.Path.{◌≡◌}
use Rattle.units.proofs.raising.place.Given as goal

-- The turns that are left come to what all turns come to.
abbrev pub invariant-loop-i : goal.invariant-loop-i
invariant-loop-i l = (length l.list ≡ length l.initial.list) × (placed (net l.links) l.x l.i (words l.list) ≡ placed (net l.links) l.x l.n (words l.initial.list))
