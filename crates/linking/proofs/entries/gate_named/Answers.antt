use Rattle.linking.proofs.Entering.{entry_names, none_named}
use Rattle.linking.proofs.entries.gate_named.Goals as goal

-- `gate_named` meets its contract.

pub returns-then-kind-eq-LOOP_ENTRY : goal.returns-then-kind-eq-LOOP_ENTRY
returns-then-kind-eq-LOOP_ENTRY c = entry_names _ _ _ c.if-kind-eq-LOOP_ENTRY.true c.gate_of.ensures

pub returns : goal.returns
returns c = none_named _ _ c.if-kind-eq-LOOP_ENTRY.false
