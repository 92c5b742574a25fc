use mathlib.Core.Path.{◌∙◌}
use borrow.Author.Tests.{ne_eqb}
use Rattle.circuit.proofs.Nested.{entry_named, no_entry}
use Rattle.circuit.proofs.bodies.names.Goals as goal

-- `circuit::bodies::names` meets its contract.

pub returns-then-kind_of_gate-eq-LOOP_ENTRY : goal.returns-then-kind_of_gate-eq-LOOP_ENTRY
returns-then-kind_of_gate-eq-LOOP_ENTRY c = entry_named _ _ _ _ c.kind_of_gate.ensures _ _ c.if-kind_of_gate-eq-LOOP_ENTRY.true c.setting.ensures c.is_number.ensures

pub returns-else-kind_of_gate-eq-LOOP_ENTRY : goal.returns-else-kind_of_gate-eq-LOOP_ENTRY
returns-else-kind_of_gate-eq-LOOP_ENTRY c = ne_eqb _ _ c.if-kind_of_gate-eq-LOOP_ENTRY.false ∙ no_entry _ _ _ _ c.kind_of_gate.ensures c.if-kind_of_gate-eq-LOOP_ENTRY.false
