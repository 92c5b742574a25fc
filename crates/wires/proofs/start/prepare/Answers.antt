use Rattle.wires.proofs.Starting.{prepare_pure, prepare_var, prepare_other}
use Rattle.wires.proofs.start.prepare.Goals as goal

pub returns-then-is_pure : goal.returns-then-is_pure
returns-then-is_pure c = prepare_pure _ _ _ _ _ _ c.kind_of_gate-kind.ensures c.is_pure.ensures c.if-is_pure.true c.soil.ensures

pub returns-then-kind-eq-VAR : goal.returns-then-kind-eq-VAR
returns-then-kind-eq-VAR c = prepare_var _ _ _ _ _ c.kind_of_gate-kind.ensures c.is_pure.ensures c.if-is_pure.false _ _ _ c.if-kind-eq-VAR.true c.output.ensures c.setting.ensures c.show.ensures

pub returns-else-kind-eq-VAR : goal.returns-else-kind-eq-VAR
returns-else-kind-eq-VAR c = prepare_other _ _ _ _ _ c.kind_of_gate-kind.ensures c.is_pure.ensures c.if-is_pure.false c.if-kind-eq-VAR.false
