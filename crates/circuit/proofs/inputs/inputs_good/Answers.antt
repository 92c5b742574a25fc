use mathlib.Core.Path.{◌∙◌}
use native.Mathlib.Omega.{arith}
use Rattle.circuit.proofs.Rows.{input_tested, inputs_all}
use Rattle.circuit.proofs.Sized.{sized}
use Rattle.circuit.proofs.Turns.{all_first, all_next, all_stop, all_last}
use Rattle.circuit.proofs.inputs.inputs_good.Goals as goal

pub get-n-requires : goal.get-n-requires
get-n-requires c = let s = sized c.args.circuit.now c.requires in omega arith

pub get-requires : goal.get-requires
get-requires c = let s = sized c.args.circuit.now c.requires in omega arith

pub get-requires-2 : goal.get-requires-2
get-requires-2 c = let s = sized c.args.circuit.now c.requires in omega arith

pub overflow_add-first : goal.overflow_add-first
overflow_add-first c = let s = sized c.args.circuit.now c.requires in omega arith

pub overflow_mul-first : goal.overflow_mul-first
overflow_mul-first c = let s = sized c.args.circuit.now c.requires in omega arith

pub overflow_add-first-2 : goal.overflow_add-first-2
overflow_add-first-2 c = let s = sized c.args.circuit.now c.requires in omega arith

pub loop-i-init : goal.loop-i-init
loop-i-init c = all_first _ _ ∙ inputs_all _ _ _ _ _ c.get-n.ensures c.get.ensures c.get-2.ensures

pub overflow_add-first-in-loop-i : goal.overflow_add-first-in-loop-i
overflow_add-first-in-loop-i c = let s = sized c.args.circuit.now c.requires in omega arith

pub get-source-requires : goal.get-source-requires
get-source-requires c = let s = sized c.args.circuit.now c.requires in omega arith

pub overflow_add-first-in-loop-i-2 : goal.overflow_add-first-in-loop-i-2
overflow_add-first-in-loop-i-2 c = let s = sized c.args.circuit.now c.requires in omega arith

pub overflow_add-first-in-loop-i-3 : goal.overflow_add-first-in-loop-i-3
overflow_add-first-in-loop-i-3 c = let s = sized c.args.circuit.now c.requires in omega arith

pub get-stored-requires : goal.get-stored-requires
get-stored-requires c = let s = sized c.args.circuit.now c.requires in omega arith

pub returns-then-not-good_input : goal.returns-then-not-good_input
returns-then-not-good_input c = all_stop _ _ _ _ _ c.loop-i-test.true (input_tested _ _ _ _ _ _ _ _ _ _ c.get-source.ensures c.get-stored.ensures c.pin_at.ensures c.stored_in.ensures c.good_input.ensures) c.if-not-good_input.true c.loop-i.invariant

pub loop-i-preserved : goal.loop-i-preserved
loop-i-preserved c = all_next _ _ _ _ _ c.loop-i-test.true (input_tested _ _ _ _ _ _ _ _ _ _ c.get-source.ensures c.get-stored.ensures c.pin_at.ensures c.stored_in.ensures c.good_input.ensures) c.if-not-good_input.false c.loop-i.invariant

pub returns : goal.returns
returns c = all_last _ _ _ _ c.loop-i-test.false c.loop-i.invariant
