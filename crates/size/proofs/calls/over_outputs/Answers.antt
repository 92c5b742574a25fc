use mathlib.Core.Path.{◌∙◌}
use native.Mathlib.Omega.{arith}
use Rattle.kinds.proofs.Laws.{few_outputs}
use Rattle.circuit.proofs.Turns.{each_first, each_next, each_last}
use Rattle.size.proofs.Passing.{over_outputs}
use Rattle.size.proofs.calls.over_outputs.Goals as goal

pub loop-p-init : goal.loop-p-init
loop-p-init g c = λ f h. each_first _ _ _ _ ∙ over_outputs f _ _ _ _ _ _ c.output-first.ensures.0 c.kind_of_gate.ensures c.outputs-n.ensures

pub overflow_add-first : goal.overflow_add-first
overflow_add-first g c = omega (arith, few_outputs c.kind_of_gate.result)

pub loop-p-preserved : goal.loop-p-preserved
loop-p-preserved g c = λ f h. each_next _ _ _ _ _ _ _ c.loop-p-test.true (h _ _ _ c.step-x.ensures) (c.loop-p.invariant f h)

pub returns : goal.returns
returns g c = λ f h. each_last _ _ _ _ _ _ c.loop-p-test.false (c.loop-p.invariant f h)
