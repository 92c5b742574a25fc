use mathlib.Core.Path.{refl}
use native.Mathlib.Omega.{arith}
use Rattle.linking.proofs.GateByGate.{ins_below, ins_small, inputs_size, inputs_are}
use Rattle.linking.proofs.Loops.{parts_first, parts_next, parts_last, below_first, below_next}
use Rattle.linking.proofs.inputs.write_inputs.Goals as goal

-- `write_inputs` meets its contract. The loop: the inputs of the gates below g are written.

pub loop-g-init : goal.loop-g-init
loop-g-init c = (below_first _ 0 refl, parts_first _ _ _ _)

pub overflow_add-sources : goal.overflow_add-sources
overflow_add-sources c = let a = ins_below _ _ _ _ c.loop-g.invariant.0 in omega arith

pub overflow_add-base : goal.overflow_add-base
overflow_add-base c = let a = ins_below _ _ _ _ c.loop-g.invariant.0 in omega arith

pub write_inputs_of-requires : goal.write_inputs_of-requires
write_inputs_of-requires c =
    let a = ins_below _ _ _ _ c.loop-g.invariant.0 in
    record { near = omega arith; short = omega arith; near_2 = omega arith }

pub overflow_add-done : goal.overflow_add-done
overflow_add-done c =
    let a = ins_below _ _ _ _ c.loop-g.invariant.0 in
    let b = ins_small _ _ _ _ c.inputs_of-done.ensures in
    omega arith

pub loop-g-preserved : goal.loop-g-preserved
loop-g-preserved c = (
  below_next _ _ _ _ c.loop-g.invariant.0 c.inputs_of-done.ensures,
  parts_next _ _ _ _ _ _ _ _ _ c.loop-g-test.true (inputs_size _ _ _ _ _ c.inputs_of-done.ensures)
      (inputs_are _ _ _ _ _ _ _ _ _ c.loop-g.invariant.0 c.read-kind.ensures c.write_inputs_of.ensures) c.loop-g.invariant.1,
)

pub returns : goal.returns
returns c = parts_last _ _ _ _ _ _ _ c.loop-g-test.false c.loop-g.invariant.1
