use Rattle.unit.proofs.Beginning.{fired_form, fired_expired, fired_first}
use Rattle.unit.proofs.fired.Goals as goal

pub returns-then-form-ge32 : goal.returns-then-form-ge32
returns-then-form-ge32 c = fired_form _ _ _ _ c.if-form-ge32.true c.output.ensures

pub returns-then-kind_of_gate-eq-STOPWATCH : goal.returns-then-kind_of_gate-eq-STOPWATCH
returns-then-kind_of_gate-eq-STOPWATCH c = fired_expired _ _ _ _ _ c.if-form-ge32.false c.kind_of_gate.ensures c.if-kind_of_gate-eq-STOPWATCH.true c.output-then-kind_of_gate-eq-STOPWATCH.ensures

pub returns : goal.returns
returns c = fired_first _ _ _ _ _ c.if-form-ge32.false c.kind_of_gate.ensures c.if-kind_of_gate-eq-STOPWATCH.false c.output-2.ensures
