use Rattle.model.specs.Wires.{mark_reader as mark_one}
use Rattle.std.proofs.Common.{◌≡◌, ◌≤◌, length}
use Rattle.model.specs.Base.{each}
use Rattle.model.specs.Circuit.{readers_of}
use Rattle.links.specs.Links.{net}
use Rattle.wires.specs.Marking.{marking, with_marking, to_do}
use Rattle.wires.proofs.Lists.{left_of}
use Rattle.wires.proofs.Marks.{mark_at}
use Rattle.wires.proofs.marking.mark_row.Given as goal

abbrev pub invariant-loop-k : goal.invariant-loop-k
invariant-loop-k l = (length l.values ≡ length l.initial.values) × (to_do (marking (net l.links) l.values l.h).marking ≤ 65) × (left_of (mark_at l.links) (marking (net l.links) l.values l.h) l.first l.count l.k ≡ with_marking (marking (net l.links) l.initial.values l.n) (each (mark_one (net l.links)) (marking (net l.links) l.initial.values l.n).marking (readers_of (net l.links) l.o)))
