use mathlib.Core.Path.{refl}
use native.Mathlib.Omega.{arith}
use Rattle.linking.proofs.GateByGate.{outs_below, outs_small}
use Rattle.linking.proofs.Loops.{below_first, below_next, below_last}
use Rattle.linking.proofs.gates.count_outputs.Goals as goal

-- `count_outputs` meets its contract. The loop: the outputs of the gates below g, at most nine each.

pub loop-g-init : goal.loop-g-init
loop-g-init c = below_first _ 0 refl

pub overflow_add-outputs : goal.overflow_add-outputs
overflow_add-outputs c =
    let a = outs_below _ _ _ _ c.loop-g.invariant in
    let b = outs_small _ _ _ _ c.outputs_of-outputs.ensures in
    omega arith

pub loop-g-preserved : goal.loop-g-preserved
loop-g-preserved c = below_next _ _ _ _ c.loop-g.invariant c.outputs_of-outputs.ensures

pub returns : goal.returns
returns c = below_last _ _ _ _ c.loop-g.invariant c.loop-g.auto.g-end c.loop-g-test.false
