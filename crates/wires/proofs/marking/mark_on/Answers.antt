use Rattle.std.proofs.Common.{arith, rules}
use Rattle.wires.proofs.Marks.{high, row_to_do, less_to_do, rounds_first, rounds_empty, rounds_over, rounds_next}
use Rattle.wires.proofs.marking.mark_on.Goals as goal

pub loop-m-init : goal.loop-m-init
loop-m-init c = (search rules, search rules, rounds_first _ _ _ _)

pub returns-then-h-eq0 : goal.returns-then-h-eq0
returns-then-h-eq0 c = rounds_empty _ _ _ _ _ c.loop-m.invariant.2 c.if-h-eq0.true

pub overflow_add-h : goal.overflow_add-h
overflow_add-h c = let q = high _ _ _ c.loop-m.invariant.1 in omega (arith, q)

pub get-o-requires : goal.get-o-requires
get-o-requires c = let q = high _ _ _ c.loop-m.invariant.1 in search rules

pub mark_row-h-requires-clause-few_to_do : goal.mark_row-h-requires-clause-few_to_do
mark_row-h-requires-clause-few_to_do c = less_to_do _ _ _ c.loop-m.invariant.1

pub loop-m-preserved : goal.loop-m-preserved
loop-m-preserved c = (search rules, row_to_do _ _ _ _ c.mark_row-h.ensures (less_to_do _ _ _ c.loop-m.invariant.1), rounds_next _ _ _ _ _ _ _ c.loop-m.invariant.2 (high _ _ _ c.loop-m.invariant.1) c.loop-m-test.true c.if-h-eq0.false c.get-o.ensures c.mark_row-h.ensures)

pub returns : goal.returns
returns c = rounds_over _ _ _ _ _ c.loop-m.invariant.2 c.loop-m-test.false
