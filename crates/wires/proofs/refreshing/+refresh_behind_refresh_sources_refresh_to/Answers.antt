use Rattle.std.proofs.Common.{rules}
use Rattle.links.specs.Links.{net}
use Rattle.wires.specs.View.{values as view}
use Rattle.wires.proofs.Lists.{turn_next, turn_last}
use Rattle.wires.proofs.Steps.{steps_first}
use Rattle.wires.proofs.Recomputing.{behind_none, behind_output, behind_fresh, refresh_none, refresh_clean, refresh_stale}
use Rattle.wires.proofs.refreshing.+refresh_behind_refresh_sources_refresh_to.Goals as goal

pub refresh_behind-returns-then-is_dirty : goal.refresh_behind-returns-then-is_dirty
refresh_behind-returns-then-is_dirty t c = behind_output _ _ _ _ _ c.source.ensures _ _ _ c.in-Some.is c.gate_at_output-behind.ensures c.refresh_to.ensures

pub refresh_behind-returns-else-is_dirty : goal.refresh_behind-returns-else-is_dirty
refresh_behind-returns-else-is_dirty t c = behind_fresh _ _ _ _ _ _ _ _ c.source.ensures c.in-Some.is c.gate_at_output-behind.ensures c.is_dirty.ensures c.if-is_dirty.false

pub refresh_behind-returns-in_default : goal.refresh_behind-returns-in_default
refresh_behind-returns-in_default t c = behind_none _ _ _ _ _ c.source.ensures c.in_default.is

pub refresh_sources-loop-k-init : goal.refresh_sources-loop-k-init
refresh_sources-loop-k-init t c = (search rules, steps_first _ _ _ _)

pub refresh_sources-loop-k-preserved : goal.refresh_sources-loop-k-preserved
refresh_sources-loop-k-preserved t c = (search rules, turn_next _ _ _ _ _ _ _ c.loop-k-test.true c.refresh_behind.ensures c.loop-k.invariant.1)

pub refresh_sources-returns : goal.refresh_sources-returns
refresh_sources-returns t c = turn_last _ _ _ _ _ _ c.loop-k-test.false c.loop-k.invariant.1

pub refresh_to-returns-then-is_dirty : goal.refresh_to-returns-then-is_dirty
refresh_to-returns-then-is_dirty t c = let a = c.args in refresh_stale (net a.links.now) (view (net a.links.now) a.values.now) a.g a.deep _ _ _ _ _ c.if-deep-gt0.true c.is_dirty.ensures c.if-is_dirty.true c.input-a.ensures c.inputs_of-n.ensures c.refresh_sources.ensures c.recompute.ensures

pub refresh_to-returns-else-is_dirty : goal.refresh_to-returns-else-is_dirty
refresh_to-returns-else-is_dirty t c = refresh_clean _ _ _ _ _ c.if-deep-gt0.true c.is_dirty.ensures c.if-is_dirty.false

pub refresh_to-returns-else-deep-gt0 : goal.refresh_to-returns-else-deep-gt0
refresh_to-returns-else-deep-gt0 t c = refresh_none _ _ _ _ c.if-deep-gt0.false
