use native.Mathlib.Omega.{arith}
use borrow.Author.Rules.{rules}
use Rattle.circuit.proofs.Nested.{no_loop, one_none, one_more, one_stop, one_last, entries_tested, in_own_body, in_another}
use Rattle.circuit.proofs.bodies.has_entry.Goals as goal
use Rattle.circuit.proofs.bodies.has_entry.Goals.{then-names+else-body_of_gate-g, else-names}

-- `circuit::bodies::has_entry` meets its contract: with the entries counted so far, the gates left come to the same.

pub returns-then-kind_of_gate-ne-LOOP : goal.returns-then-kind_of_gate-ne-LOOP
returns-then-kind_of_gate-ne-LOOP c = no_loop _ _ _ c.kind_of_gate.ensures c.if-kind_of_gate-ne-LOOP.true

pub loop-e-init : goal.loop-e-init
loop-e-init c = (search rules, entries_tested _ _ _ _ c.kind_of_gate.ensures c.if-kind_of_gate-ne-LOOP.false c.gates-n.ensures)

pub returns-then-body_of_gate-g : goal.returns-then-body_of_gate-g
returns-then-body_of_gate-g c = one_stop _ _ _ _ _ _ _ c.loop-e-test.true c.names.ensures c.if-names.true (in_another _ _ _ _ c.body_of_gate.ensures c.if-body_of_gate-g.true) c.loop-e.invariant.1

pub loop-e-preserved : goal.loop-e-preserved
loop-e-preserved c =
    elim c.if-names.branch [
      | then-names+else-body_of_gate-g w ↦ (
        omega (arith, w.entries-is),
        one_more _ _ _ _ _ _ _ _ c.loop-e-test.true c.names.ensures w.if-names.true (in_own_body _ _ _ _ w.body_of_gate.ensures w.if-body_of_gate-g.false) w.entries-is c.loop-e.invariant.1,
      )
      | else-names w ↦ (
        omega (arith, w.entries-is),
        one_none _ _ _ _ _ _ _ _ c.loop-e-test.true c.names.ensures w.if-names.false w.entries-is c.loop-e.invariant.1,
      )
    ]

pub returns : goal.returns
returns c = one_last _ _ _ _ _ _ c.loop-e-test.false c.loop-e.invariant.1
