use Rattle.model.specs.Wires.{mark_on as mark_rounds}
use Rattle.std.proofs.Common.{◌≡◌, ◌≤◌, length}
use Rattle.links.specs.Links.{net}
use Rattle.wires.specs.View.{with_wires, values as view}
use Rattle.wires.specs.Marking.{marking, to_do}
use Rattle.wires.proofs.Marks.{ended}
use Rattle.wires.proofs.marking.mark_on.Given as goal

abbrev pub invariant-loop-m : goal.invariant-loop-m
invariant-loop-m l = (length l.values ≡ length l.initial.values) × (to_do (marking (net l.links) l.values l.h).marking ≤ 65) × (ended (net l.links) l.m (marking (net l.links) l.values l.h) ≡ with_wires (view (net l.links) l.initial.values) (mark_rounds (net l.links) l.rounds (marking (net l.links) l.initial.values l.n).marking))
