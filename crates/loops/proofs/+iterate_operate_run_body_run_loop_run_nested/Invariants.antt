use mathlib.Core.Path.{◌≡◌}
use Prim.Native.Nat.{◌+◌, ◌-◌, ◌*◌}
use lib.ListN.{length}
use Rattle.links.specs.Links.{net}
use Rattle.states.specs.View.{Lent}
use Rattle.areas.specs.Areas.{areas}
use Rattle.chain.specs.Chain.{started}
use Rattle.loops.specs.Loops.{looping}
use Rattle.loops.proofs.Ring.{nested}
use Rattle.loops.proofs.+iterate_operate_run_body_run_loop_run_nested.Given as goal

abbrev pub decreases-iterate : goal.decreases-iterate
decreases-iterate l = 5 * l.nesting + 1

abbrev pub decreases-operate : goal.decreases-operate
decreases-operate l = 5 * l.nesting + 3

abbrev pub decreases-run_body : goal.decreases-run_body
decreases-run_body l = 5 * l.nesting

abbrev pub decreases-run_loop : goal.decreases-run_loop
decreases-run_loop l = 5 * l.nesting + 2

abbrev pub decreases-run_nested : goal.decreases-run_nested
decreases-run_nested l = 5 * l.nesting + 4

abbrev pub invariant-iterate-loop-done : goal.invariant-iterate-loop-done
invariant-iterate-loop-done l = (length l.values ≡ length l.initial.values) × (length l.units ≡ length l.initial.units) × (length l.delays ≡ length l.initial.delays) × Lent (net l.links) l.delays
    × ((areas (net l.links) l.values l.units l.delays).lists ≡ (areas (net l.links) l.initial.values l.initial.units l.initial.delays).lists)
    × ((areas (net l.links) l.values l.units l.delays).kept ≡ (areas (net l.links) l.initial.values l.initial.units l.initial.delays).kept)
    × (looping (net l.links) l.nesting l.g l.first l.step (l.count - l.done) l.done (started (areas (net l.links) l.values l.units l.delays) l.rest)
    ≡ looping (net l.links) l.nesting l.g l.first l.step l.count 0 (started (areas (net l.links) l.initial.values l.initial.units l.initial.delays) l.left))

abbrev pub invariant-run_nested-loop-rest : goal.invariant-run_nested-loop-rest
invariant-run_nested-loop-rest l = (length l.values ≡ length l.initial.values) × (length l.units ≡ length l.initial.units) × (length l.delays ≡ length l.initial.delays) × Lent (net l.links) l.delays
    × ((areas (net l.links) l.values l.units l.delays).lists ≡ (areas (net l.links) l.initial.values l.initial.units l.initial.delays).lists)
    × ((areas (net l.links) l.values l.units l.delays).kept ≡ (areas (net l.links) l.initial.values l.initial.units l.initial.delays).kept)
    × (nested (net l.links) l.nesting l.inside l.under (started (areas (net l.links) l.values l.units l.delays) l.rest)
    ≡ nested (net l.links) l.nesting l.inside l.under (started (areas (net l.links) l.initial.values l.initial.units l.initial.delays) l.initial.rest))

abbrev pub decreases-run_nested-loop-rest : goal.decreases-run_nested-loop-rest
decreases-run_nested-loop-rest l = l.rest
