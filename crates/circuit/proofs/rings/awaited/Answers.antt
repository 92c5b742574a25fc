use native.Mathlib.Omega.{arith}
use Rattle.kinds.proofs.Laws.{few_inputs}
use Rattle.circuit.specs.Gates.{with_source}
use Rattle.circuit.proofs.Turns.{each_first, each_next, each_last}
use Rattle.circuit.proofs.Sources.{awaited_none, awaited_some}
use mathlib.Core.Path.{ap}
use mathlib.Core.Bool.{not}
use Rattle.circuit.proofs.rings.awaited.Goals as goal

pub returns-then-not-is_pure : goal.returns-then-not-is_pure
returns-then-not-is_pure c = awaited_none _ _ _ _ c.kind_of_gate-kind.ensures c.is_pure.ensures (ap not c.if-not-is_pure.true)

pub loop-p-init : goal.loop-p-init
loop-p-init c = each_first _ _ _ _

pub overflow_add-first : goal.overflow_add-first
overflow_add-first c = omega (arith, few_inputs c.kind_of_gate-kind.result)

pub loop-p-preserved : goal.loop-p-preserved
unfolding with_source
loop-p-preserved c = each_next _ _ _ _ _ _ _ c.loop-p-test.true (rw c.source_bit-word.ensures) c.loop-p.invariant

pub returns : goal.returns
returns c = awaited_some _ _ _ _ _ _ _ c.kind_of_gate-kind.ensures c.is_pure.ensures (ap not c.if-not-is_pure.false) c.input-first.ensures.0 c.inputs-n.ensures (each_last _ _ _ _ _ _ c.loop-p-test.false c.loop-p.invariant)
