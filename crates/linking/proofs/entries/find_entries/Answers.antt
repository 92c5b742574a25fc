use mathlib.Core.Path.{refl}
use native.Mathlib.Omega.{arith}
use borrow.Author.Rules.{rules}
use Rattle.linking.proofs.GateByGate.{ins_below}
use Rattle.linking.proofs.Entering.{entered_next, entered_last, below_back, named_is}
use Rattle.linking.proofs.entries.find_entries.Goals as goal

-- `find_entries` meets its contract. The loop: the inputs of the gates below e, which are still to be written down.

pub loop-e-init : goal.loop-e-init
loop-e-init c = (search rules, refl)

pub overflow_sub-i : goal.overflow_sub-i
overflow_sub-i c = (below_back _ _ _ _ c.loop-e-test.true c.loop-e.invariant.0 c.inputs_of-i.ensures).0

pub overflow_add-stored : goal.overflow_add-stored
overflow_add-stored c = let a = ins_below _ _ _ _ c.loop-e.invariant.0 in omega arith

pub loop-e-preserved : goal.loop-e-preserved
loop-e-preserved c =
    let b = below_back _ _ _ _ c.loop-e-test.true c.loop-e.invariant.0 c.inputs_of-i.ensures in (b.1, entered_next _ _ _ _ _ _ c.loop-e-test.true (named_is _ _ _ _ _ _ _ _ _ _ b.1 c.read-kind.ensures c.word-name.ensures c.value_named-v.ensures c.gate_named.ensures) c.put.ensures c.loop-e.invariant.1)

pub returns : goal.returns
returns c = entered_last _ _ _ _ c.loop-e-test.false c.loop-e.invariant.1
