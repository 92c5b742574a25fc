use Rattle.play.proofs.Laws.{outputs_first, outputs_next, outputs_last, outputs_are, outputs_told, few_more}
use mathlib.Core.Path.{refl}
use native.Mathlib.Omega.{arith}
use borrow.Author.Rules.{rules}
use Rattle.play.proofs.outputs.outputs.Goals as goal

pub loop-g-init : goal.loop-g-init
loop-g-init c = (search rules, outputs_first _ _ _)

pub overflow_add-total : goal.overflow_add-total
overflow_add-total c = omega (arith, few_more _ _ c.outputs-total.ensures, c.loop-g.invariant.0, c.loop-g-test.true, c.least-constants.ensures.upper_bound, c.least-gates.ensures.upper_bound)

pub loop-g-preserved : goal.loop-g-preserved
loop-g-preserved c = (omega (arith, few_more _ _ c.outputs-total.ensures, c.loop-g.invariant.0), outputs_next _ _ _ _ _ _ _ _ c.loop-g-test.true c.read-in-loop-g.ensures c.outputs-total.ensures c.loop-g.invariant.1)

pub returns : goal.returns
returns c =
    let h = outputs_told _ (outputs_are _ _ _ _ _ _ _ c.read.ensures c.least-gates.ensures.value c.read-2.ensures c.least-constants.ensures.value refl (outputs_last _ _ _ _ _ _ c.loop-g-test.false c.loop-g.invariant.1)) (omega (arith, c.loop-g.invariant.0, c.loop-g.auto.g-end, c.least-gates.ensures.upper_bound)) in
    record { value = h.0; value_2 = h.1.0; upper_bound = h.1.1 }
