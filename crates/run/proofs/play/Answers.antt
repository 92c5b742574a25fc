use native.Mathlib.Omega.{arith}
use Rattle.run.proofs.Playing.{playing_first, script_head, script_room, few_ticks, fits, record_in, playing_on, playing_stop, playing_end}
use borrow.Author.Rules.{rules}
use Rattle.run.proofs.play.Goals as goal

pub get-ticks-requires : goal.get-ticks-requires
get-ticks-requires c = let x = script_head _ _ c.requires.limit_bound.1 in search rules

pub get-stimuli-requires : goal.get-stimuli-requires
get-stimuli-requires c = let x = script_head _ _ c.requires.limit_bound.1 in search rules

pub overflow_mul-gates : goal.overflow_mul-gates
overflow_mul-gates c = let x = script_room _ _ _ _ c.requires.limit_bound.1 c.get-ticks.ensures c.get-stimuli.ensures in search rules

pub overflow_add-gates : goal.overflow_add-gates
overflow_add-gates c = let x = script_room _ _ _ _ c.requires.limit_bound.1 c.get-ticks.ensures c.get-stimuli.ensures in search rules

pub overflow_add-constants : goal.overflow_add-constants
overflow_add-constants c = let x = script_room _ _ _ _ c.requires.limit_bound.1 c.get-ticks.ensures c.get-stimuli.ensures in search rules

pub loop-k-init : goal.loop-k-init
loop-k-init c = (search rules, search rules, search rules, search rules, few_ticks _ _ _ c.requires.limit_bound.1 c.get-ticks.ensures, script_room _ _ _ _ c.requires.limit_bound.1 c.get-ticks.ensures c.get-stimuli.ensures, search rules, search rules, c.requires.linked.2, playing_first _ _ _ _ _ c.requires.started.0 c.requires.started.1)

pub tick-t-requires : goal.tick-t-requires
tick-t-requires c =
    let x = fits _ _ _ c.requires.limit_bound.1 _ _ _ c.get-ticks.ensures c.get-stimuli.ensures _ _ _ _ _ c.loop-k.invariant.9 c.loop-k.invariant.3 c.loop-k-test.true _ c.get-n.ensures in let y = c.loop-k.invariant.9.number in
    record { linked = (search rules, search rules, c.loop-k.invariant.8, c.requires.linked.3); has_words = (search rules, search rules, search rules, search rules, c.requires.limit_bound.0) }

pub overflow_add-at : goal.overflow_add-at
overflow_add-at c = let x = record_in _ _ _ c.requires.limit_bound.1 _ _ _ c.get-ticks.ensures c.get-stimuli.ensures _ _ _ _ _ c.loop-k.invariant.9 c.loop-k.invariant.3 c.loop-k-test.true _ _ c.get-n.ensures c.get-dt.ensures _ _ _ _ c.tick-t.ensures.over_all in omega (arith, c.well_formed)

pub returns-then-t-ne0 : goal.returns-then-t-ne0
returns-then-t-ne0 c =
    let h = playing_stop _ _ _ c.requires.limit_bound.1 _ _ _ c.get-ticks.ensures c.get-stimuli.ensures _ _ _ _ _ c.loop-k.invariant.9 c.loop-k.invariant.3 c.loop-k-test.true _ _ c.get-n.ensures c.get-dt.ensures _ _ _ _ c.tick-t.ensures.over_all c.if-t-ne0.true in
    record { logs = h.0; size_in_bounds = h.1 }

pub overflow_add-used : goal.overflow_add-used
overflow_add-used c = let x = fits _ _ _ c.requires.limit_bound.1 _ _ _ c.get-ticks.ensures c.get-stimuli.ensures _ _ _ _ _ c.loop-k.invariant.9 c.loop-k.invariant.3 c.loop-k-test.true _ c.get-n.ensures in search rules

pub loop-k-preserved : goal.loop-k-preserved
loop-k-preserved c = (search rules, search rules, search rules, search rules, search rules, search rules, fits _ _ _ c.requires.limit_bound.1 _ _ _ c.get-ticks.ensures c.get-stimuli.ensures _ _ _ _ _ c.loop-k.invariant.9 c.loop-k.invariant.3 c.loop-k-test.true _ c.get-n.ensures, record_in _ _ _ c.requires.limit_bound.1 _ _ _ c.get-ticks.ensures c.get-stimuli.ensures _ _ _ _ _ c.loop-k.invariant.9 c.loop-k.invariant.3 c.loop-k-test.true _ _ c.get-n.ensures c.get-dt.ensures _ _ _ _ c.tick-t.ensures.over_all, c.tick-t.ensures.slots_stay, playing_on _ _ _ c.requires.limit_bound.1 _ _ _ c.get-ticks.ensures c.get-stimuli.ensures _ _ _ _ _ c.loop-k.invariant.9 c.loop-k.invariant.3 c.loop-k-test.true _ _ c.get-n.ensures c.get-dt.ensures _ _ _ _ c.tick-t.ensures.over_all c.if-t-ne0.false)

pub returns : goal.returns
returns c =
    let h = playing_end _ _ _ c.requires.limit_bound.1 _ _ _ c.get-ticks.ensures c.get-stimuli.ensures _ _ _ _ _ c.loop-k.invariant.9 c.loop-k-test.false c.loop-k.auto.k-end in
    record { logs = h.0; size_in_bounds = h.1 }
