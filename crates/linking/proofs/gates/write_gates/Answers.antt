use Prim.Native.Nat.{◌+◌}
use mathlib.Core.Path.{refl}
use native.Mathlib.Omega.{arith}
use Rattle.words.specs.Words.{words}
use Rattle.linking.proofs.GateByGate.{ins_below, ins_small, outs_below, outs_small, word_small, entry_small, gate_is}
use Rattle.linking.proofs.Loops.{cells_first, cells_next, cells_last, below_first, below_next}
use Rattle.linking.proofs.gates.write_gates.Goals as goal

-- `write_gates` meets its contract. The loop: the inputs and the outputs of the gates below g, and what is left to write.

pub loop-g-init : goal.loop-g-init
loop-g-init c = (below_first _ 0 refl, below_first _ 0 refl, cells_first _ _ _ _)

pub overflow_mul-kind_and_body : goal.overflow_mul-kind_and_body
overflow_mul-kind_and_body c = let p = word_small (words c.args.gates.circuit.now) (c.args.gates.kinds + c.args.gates.count) _ _ _ _ c.requires.small_2 c.loop-g-test.true c.word-place.ensures in omega arith

pub overflow_add-kind_and_body : goal.overflow_add-kind_and_body
overflow_add-kind_and_body c = let p = word_small (words c.args.gates.circuit.now) (c.args.gates.kinds + c.args.gates.count) _ _ _ _ c.requires.small_2 c.loop-g-test.true c.word-place.ensures in let k = word_small (words c.args.gates.circuit.now) c.args.gates.kinds _ _ _ _ c.requires.small c.loop-g-test.true c.word-kind.ensures in omega arith

pub overflow_mul-input_and_entry : goal.overflow_mul-input_and_entry
overflow_mul-input_and_entry c = let e = entry_small c.args.entries.now _ _ _ c.requires.gates c.loop-g-test.true c.at-entry.ensures in omega arith

pub overflow_add-input_and_entry : goal.overflow_add-input_and_entry
overflow_add-input_and_entry c = let e = entry_small c.args.entries.now _ _ _ c.requires.gates c.loop-g-test.true c.at-entry.ensures in let a = ins_below _ _ _ _ c.loop-g.invariant.0 in omega arith

pub pack-gate-requires : goal.pack-gate-requires
pack-gate-requires c =
    let p = word_small (words c.args.gates.circuit.now) (c.args.gates.kinds + c.args.gates.count) _ _ _ _ c.requires.small_2 c.loop-g-test.true c.word-place.ensures in
    let k = word_small (words c.args.gates.circuit.now) c.args.gates.kinds _ _ _ _ c.requires.small c.loop-g-test.true c.word-kind.ensures in
    let e = entry_small c.args.entries.now _ _ _ c.requires.gates c.loop-g-test.true c.at-entry.ensures in
    let a = ins_below _ _ _ _ c.loop-g.invariant.0 in
    let b = outs_below _ _ _ _ c.loop-g.invariant.1 in
    record { short = omega arith; short_2 = omega arith; short_3 = omega arith; short_4 = omega arith }

pub overflow_add-inputs : goal.overflow_add-inputs
overflow_add-inputs c =
    let a = ins_below _ _ _ _ c.loop-g.invariant.0 in
    let b = ins_small _ _ _ _ c.inputs_of-inputs.ensures in
    omega arith

pub overflow_add-outputs : goal.overflow_add-outputs
overflow_add-outputs c =
    let a = outs_below _ _ _ _ c.loop-g.invariant.1 in
    let b = outs_small _ _ _ _ c.outputs_of-outputs.ensures in
    omega arith

pub loop-g-preserved : goal.loop-g-preserved
loop-g-preserved c = (
  below_next _ _ _ _ c.loop-g.invariant.0 c.inputs_of-inputs.ensures,
  below_next _ _ _ _ c.loop-g.invariant.1 c.outputs_of-outputs.ensures,
  cells_next _ _ _ _ _ _ _ _ c.loop-g-test.true
      (gate_is _ _ _ _ _ _ _ _ _ _ _ c.loop-g.invariant.0 c.loop-g.invariant.1 c.word-kind.ensures c.word-place.ensures c.at-entry.ensures c.pack-gate.ensures) c.put.ensures c.loop-g.invariant.2,
)

pub returns : goal.returns
returns c = cells_last _ _ _ _ _ _ c.loop-g-test.false c.loop-g.invariant.2
