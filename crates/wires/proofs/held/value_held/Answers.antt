use Rattle.wires.specs.Held.{held_by}
use Rattle.wires.proofs.Tags.{held_at, held_float, held_bool}
use Rattle.wires.proofs.held.value_held.Goals as goal

pub returns-then-tag-eq1 : goal.returns-then-tag-eq1
unfolding held_by
returns-then-tag-eq1 c = held_at _ _ 1 c.if-tag-eq1.true

pub returns-then-tag-ne0 : goal.returns-then-tag-ne0
returns-then-tag-ne0 c = held_float _ _ c.if-tag-ne0.true c.if-tag-eq1.false

pub returns-then-tag-eq0 : goal.returns-then-tag-eq0
unfolding held_by
returns-then-tag-eq0 c = held_at _ _ 0 c.if-tag-eq0.true

pub returns : goal.returns
returns c = held_bool _ _ c.if-tag-ne0.false c.if-tag-eq0.false
