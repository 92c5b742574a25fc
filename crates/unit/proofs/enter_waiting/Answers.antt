use Rattle.unit.proofs.Entering.{brings_none, brings_nothing, brings_constant}
use Rattle.unit.proofs.enter_waiting.Goals as goal

pub returns-then-form_of-ne-STIMULUS : goal.returns-then-form_of-ne-STIMULUS
returns-then-form_of-ne-STIMULUS c = brings_none _ _ _ _ _ c.form_of.ensures c.if-form_of-ne-STIMULUS.true

pub returns-then-k-eq0 : goal.returns-then-k-eq0
returns-then-k-eq0 c = brings_nothing _ _ _ _ _ c.form_of.ensures _ c.if-form_of-ne-STIMULUS.false c.brings-k.ensures c.if-k-eq0.true

pub returns : goal.returns
returns c = brings_constant _ _ _ _ _ _ _ _ _ c.form_of.ensures c.if-form_of-ne-STIMULUS.false c.brings-k.ensures c.if-k-eq0.false c.constant-v.ensures c.gate_of.ensures c.output.ensures c.set_out.ensures
