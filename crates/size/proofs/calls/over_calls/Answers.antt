use mathlib.Core.Path.{◌∙◌, ap}
use Rattle.circuit.proofs.Turns.{each_first, each_next, each_last}
use Rattle.size.proofs.Passing.{over_calls}
use Rattle.size.proofs.calls.over_calls.Goals as goal

pub loop-k-init : goal.loop-k-init
loop-k-init g c = λ f h. each_first _ _ _ _ ∙ over_calls f _ _ _ _ _ c.first_call-first.ensures c.call_count-n.ensures

pub loop-k-preserved : goal.loop-k-preserved
loop-k-preserved g c = λ f h. each_next _ _ _ _ _ _ _ c.loop-k-test.true (h _ _ _ c.step-x.ensures ∙ ap (f c.loop-k.x) c.entered.ensures) (c.loop-k.invariant f h)

pub returns : goal.returns
returns g c = λ f h. each_last _ _ _ _ _ _ c.loop-k-test.false (c.loop-k.invariant f h)
