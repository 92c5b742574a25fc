use borrow.Author.Rules.{rules}
use mathlib.Core.Path.{refl}
use native.Mathlib.Omega.{arith}
use Rattle.linking.proofs.GateByGate.{outs_below, outs_small, outputs_size, outputs_are}
use Rattle.linking.proofs.Loops.{parts_first, parts_next, parts_last, below_first, below_next}
use Rattle.linking.proofs.gates.write_outputs.Goals as goal

-- `write_outputs` meets its contract. The loop: the outputs of the gates below g are written.

pub loop-g-init : goal.loop-g-init
loop-g-init c = (below_first _ 0 refl, parts_first _ _ _ _)

pub overflow_add-base : goal.overflow_add-base
overflow_add-base c = let a = outs_below _ _ _ _ c.loop-g.invariant.0 in omega arith

pub write_each-requires-clause-near : goal.write_each-requires-clause-near
write_each-requires-clause-near c = let a = outs_below _ _ _ _ c.loop-g.invariant.0 in omega arith

pub write_each-requires-clause-near_2 : goal.write_each-requires-clause-near_2
write_each-requires-clause-near_2 c = let b = outs_small _ _ _ _ c.outputs_of-outputs.ensures in omega arith

pub overflow_add-done : goal.overflow_add-done
overflow_add-done c =
    let a = outs_below _ _ _ _ c.loop-g.invariant.0 in
    let b = outs_small _ _ _ _ c.outputs_of-outputs.ensures in
    omega arith

pub loop-g-preserved : goal.loop-g-preserved
loop-g-preserved c = (below_next _ _ _ _ c.loop-g.invariant.0 c.outputs_of-outputs.ensures, parts_next _ _ _ _ _ _ _ _ _ c.loop-g-test.true (outputs_size _ _ _ _ c.outputs_of-outputs.ensures) (outputs_are _ _ _ _ _ _ _ c.outputs_of-outputs.ensures (c.write_each.ensures (λ p. c.loop-g.g) (λ k r h p. search rules))) c.loop-g.invariant.1)

pub returns : goal.returns
returns c = parts_last _ _ _ _ _ _ _ c.loop-g-test.false c.loop-g.invariant.1
