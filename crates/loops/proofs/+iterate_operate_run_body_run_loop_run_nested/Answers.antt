use borrow.Author.Rules.{rules}
use mathlib.Core.Path.{refl, ◌∙◌}
use Prim.Native.Nat.{◌-◌}
use native.Mathlib.Nat.{sub-zero}
use native.Mathlib.Omega.{arith}
use Rattle.loops.proofs.Ring.{was_not, was_so, run_begins, none_run, nested_ended, nested_runs_away, nested_stops, nested_goes_on, nested_lists, nested_kept, nested_falls, operate_call, operate_stopped, operate_completed, body_none, body_ran, loop_ran, loop_counted, loop_aborted, loop_ended, loop_goes_on, loop_lists, loop_kept}
use mathlib.Core.Path.{ap}
use mathlib.Core.Bool.{not}
use Rattle.loops.proofs.+iterate_operate_run_body_run_loop_run_nested.Goals as goal

pub iterate-loop-done-init : goal.iterate-loop-done-init
iterate-loop-done-init t c = (search rules, search rules, search rules, search rules, refl, refl, rw sub-zero refl)

pub iterate-returns-then-not-begin_run : goal.iterate-returns-then-not-begin_run
iterate-returns-then-not-begin_run t c = let a = c.args in
    record { over_all = loop_aborted _ a.nesting a.g a.first a.step a.count a.left _ _ _ _ _ _ _ _ c.loop-done.invariant.4 c.loop-done.invariant.5 c.loop-done.invariant.6 c.loop-done-test.true _ _ c.begin_run.ensures.value c.begin_run.ensures.turns (was_not _ (ap not c.if-not-begin_run.true)); slots_stay = search rules }

pub iterate-run_body-ran-requires : goal.iterate-run_body-ran-requires
iterate-run_body-ran-requires t c = (search rules, (search rules, search rules, search rules))

pub iterate-returns-then-not-goes_on : goal.iterate-returns-then-not-goes_on
iterate-returns-then-not-goes_on t c = let a = c.args in
    record { over_all = loop_ended _ a.nesting a.g a.first a.step a.count a.left _ _ _ _ _ _ _ _ c.loop-done.invariant.4 c.loop-done.invariant.5 c.loop-done.invariant.6 c.loop-done-test.true _ _ c.begin_run.ensures.value c.begin_run.ensures.turns (was_so _ (ap not c.if-not-begin_run.false)) _ c.loop_index-i.ensures _ _ c.run_body-ran.ensures.over_all _ c.goes_on.ensures (was_not _ (ap not c.if-not-goes_on.true)); slots_stay = c.run_body-ran.ensures.slots_stay }

pub iterate-loop-done-preserved : goal.iterate-loop-done-preserved
iterate-loop-done-preserved t c = let a = c.args in (search rules, search rules, search rules, c.run_body-ran.ensures.slots_stay, loop_lists _ a.nesting a.g a.first a.step a.count a.left _ _ _ _ _ _ _ _ c.loop-done.invariant.4 c.loop-done.invariant.5 c.loop-done.invariant.6 c.loop-done-test.true _ _ c.begin_run.ensures.value c.begin_run.ensures.turns (was_so _ (ap not c.if-not-begin_run.false)) _ c.loop_index-i.ensures _ _ c.run_body-ran.ensures.over_all _ c.goes_on.ensures, loop_kept _ a.nesting a.g a.first a.step a.count a.left _ _ _ _ _ _ _ _ c.loop-done.invariant.4 c.loop-done.invariant.5 c.loop-done.invariant.6 c.loop-done-test.true _ _ c.begin_run.ensures.value c.begin_run.ensures.turns (was_so _ (ap not c.if-not-begin_run.false)) _ c.loop_index-i.ensures _ _ c.run_body-ran.ensures.over_all _ c.goes_on.ensures, loop_goes_on _ a.nesting a.g a.first a.step a.count a.left _ _ _ _ _ _ _ _ c.loop-done.invariant.4 c.loop-done.invariant.5 c.loop-done.invariant.6 c.loop-done-test.true _ _ c.begin_run.ensures.value c.begin_run.ensures.turns (was_so _ (ap not c.if-not-begin_run.false)) _ c.loop_index-i.ensures _ _ c.run_body-ran.ensures.over_all _ c.goes_on.ensures (was_so _ (ap not c.if-not-goes_on.false)))

pub iterate-returns : goal.iterate-returns
iterate-returns t c = let a = c.args in
    record { over_all = loop_counted _ a.nesting a.g a.first a.step a.count a.left _ _ _ _ _ _ _ _ c.loop-done.invariant.4 c.loop-done.invariant.5 c.loop-done.invariant.6 c.loop-done-test.false c.loop-done.auto.done-end; slots_stay = search rules }

pub operate-returns-then-k-ne-LOOP-clause-over_all : goal.operate-returns-then-k-ne-LOOP-clause-over_all
operate-returns-then-k-ne-LOOP-clause-over_all t c = operate_call _ _ _ _ _ _ _ c.gate_at_input-g.ensures c.kind_of_gate-k.ensures _ c.if-k-ne-LOOP.true _ _ c.make_call.ensures.over_all

pub operate-returns-then-ran-ne0-clause-over_all : goal.operate-returns-then-ran-ne0-clause-over_all
operate-returns-then-ran-ne0-clause-over_all t c = operate_stopped _ _ _ _ _ _ _ c.gate_at_input-g.ensures c.kind_of_gate-k.ensures _ c.if-k-ne-LOOP.false _ _ c.run_loop-ran.ensures.over_all c.if-ran-ne0.true

pub operate-returns-clause-over_all : goal.operate-returns-clause-over_all
operate-returns-clause-over_all t c = operate_completed _ _ _ _ _ _ _ c.gate_at_input-g.ensures c.kind_of_gate-k.ensures _ c.if-k-ne-LOOP.false _ _ c.run_loop-ran.ensures.over_all c.if-ran-ne0.false _ c.output.ensures.0 _ _ (c.fire_output.ensures _ _)

pub run_body-returns-then-nesting-eq0-clause-over_all : goal.run_body-returns-then-nesting-eq0-clause-over_all
run_body-returns-then-nesting-eq0-clause-over_all t c = body_none _ _ _ _ _ _ c.if-nesting-eq0.true

pub run_body-run_nested-ran-requires : goal.run_body-run_nested-ran-requires
run_body-run_nested-ran-requires t c = (search rules, (search rules, search rules, search rules))

pub run_body-set_unions_passed-requires : goal.run_body-set_unions_passed-requires
run_body-set_unions_passed-requires t c = omega (arith, c.run_nested-ran.auto.values, c.begin_body-begun.auto.values, c.requires.0)

pub run_body-returns-clause-over_all : goal.run_body-returns-clause-over_all
run_body-returns-clause-over_all t c = body_ran _ _ _ _ _ _ _ _ _ _ _ _ _ _ _ c.if-nesting-eq0.false (c.calls_waiting-under.ensures _) c.unions_passed-passed.ensures (c.begin_body-begun.ensures _) c.run_nested-ran.ensures.over_all c.set_unions_passed.ensures

pub run_loop-iterate-looped-requires : goal.run_loop-iterate-looped-requires
run_loop-iterate-looped-requires t c = (search rules, (search rules, search rules, search rules))

pub run_loop-loop_over-requires : goal.run_loop-loop_over-requires
run_loop-loop_over-requires t c = search rules

pub run_loop-returns-clause-over_all : goal.run_loop-returns-clause-over_all
run_loop-returns-clause-over_all t c = loop_ran _ _ _ _ _ _ _ _ _ _ _ (c.begin_loop-counts.ensures _ _) c.iterate-looped.ensures.over_all (c.loop_over.ensures _ _)

pub run_nested-returns-then-run-ne0-clause-over_all : goal.run_nested-returns-then-run-ne0-clause-over_all
run_nested-returns-then-run-ne0-clause-over_all t c = none_run _ _ _ _ _ _ c.if-run-ne0.true

pub run_nested-loop-rest-init : goal.run_nested-loop-rest-init
run_nested-loop-rest-init t c = (search rules, search rules, search rules, search rules, refl, refl, refl)

pub run_nested-returns-in_default-clause-over_all : goal.run_nested-returns-in_default-clause-over_all
run_nested-returns-in_default-clause-over_all t c = nested_ended _ _ _ _ _ _ _ _ _ _ _ _ c.loop-rest.invariant.4 c.loop-rest.invariant.5 (c.loop-rest.invariant.6 ∙ run_begins _ _ _ _ _ _ _ _ c.if-run-ne0.false) _ _ (c.pop_call.ensures _) _ refl c.in_default.is

pub run_nested-operate-ran-requires : goal.run_nested-operate-ran-requires
run_nested-operate-ran-requires t c = (search rules, (search rules, search rules, search rules))

pub run_nested-returns-then-ran-ne0-clause-over_all : goal.run_nested-returns-then-ran-ne0-clause-over_all
run_nested-returns-then-ran-ne0-clause-over_all t c = nested_stops _ _ _ _ _ _ _ _ _ _ _ _ c.loop-rest.invariant.4 c.loop-rest.invariant.5 (c.loop-rest.invariant.6 ∙ run_begins _ _ _ _ _ _ _ _ c.if-run-ne0.false) _ _ (c.pop_call.ensures _) _ c.in-Some.is c.loop-rest-test.true _ _ c.operate-ran.ensures.over_all c.if-ran-ne0.true

pub run_nested-loop-rest-smaller : goal.run_nested-loop-rest-smaller
run_nested-loop-rest-smaller t c = nested_falls _ _ _ _ _ _ _ _ _ _ _ _ c.loop-rest.invariant.4 c.loop-rest.invariant.5 c.loop-rest.invariant.6 _ _ (c.pop_call.ensures _) _ c.in-Some.is c.loop-rest-test.true _ _ c.operate-ran.ensures.over_all

pub run_nested-loop-rest-preserved : goal.run_nested-loop-rest-preserved
run_nested-loop-rest-preserved t c = (search rules, search rules, search rules, c.operate-ran.ensures.slots_stay, nested_lists _ _ _ _ _ _ _ _ _ _ _ _ c.loop-rest.invariant.4 c.loop-rest.invariant.5 c.loop-rest.invariant.6 _ _ (c.pop_call.ensures _) _ c.in-Some.is c.loop-rest-test.true _ _ c.operate-ran.ensures.over_all, nested_kept _ _ _ _ _ _ _ _ _ _ _ _ c.loop-rest.invariant.4 c.loop-rest.invariant.5 c.loop-rest.invariant.6 _ _ (c.pop_call.ensures _) _ c.in-Some.is c.loop-rest-test.true _ _ c.operate-ran.ensures.over_all, nested_goes_on _ _ _ _ _ _ _ _ _ _ _ _ c.loop-rest.invariant.4 c.loop-rest.invariant.5 c.loop-rest.invariant.6 _ _ (c.pop_call.ensures _) _ c.in-Some.is c.loop-rest-test.true _ _ c.operate-ran.ensures.over_all c.if-ran-ne0.false)

pub run_nested-returns-in-None-clause-over_all : goal.run_nested-returns-in-None-clause-over_all
run_nested-returns-in-None-clause-over_all t c = nested_ended _ _ _ _ _ _ _ _ _ _ _ _ c.loop-rest.invariant.4 c.loop-rest.invariant.5 (c.loop-rest.invariant.6 ∙ run_begins _ _ _ _ _ _ _ _ c.if-run-ne0.false) _ _ (c.pop_call-2.ensures _) _ (search rules) c.in-None.is

pub run_nested-returns-in-Some-pop_call-clause-over_all : goal.run_nested-returns-in-Some-pop_call-clause-over_all
run_nested-returns-in-Some-pop_call-clause-over_all t c = nested_runs_away _ _ _ _ _ _ _ _ _ _ _ _ c.loop-rest.invariant.4 c.loop-rest.invariant.5 (c.loop-rest.invariant.6 ∙ run_begins _ _ _ _ _ _ _ _ c.if-run-ne0.false) _ _ (c.pop_call-2.ensures _) _ c.loop-rest-test.false c.in-Some-pop_call.is
