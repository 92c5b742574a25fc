use borrow.Author.Tests.{eq-eqb, ne_eqb}
use Rattle.model.specs.Kinds.{receiving}
use Rattle.whole.proofs.units.receiving.Goals as goal

pub returns-then-kind-eq-EVENT_CUSTOM : goal.returns-then-kind-eq-EVENT_CUSTOM
unfolding receiving
returns-then-kind-eq-EVENT_CUSTOM c = rw (eq-eqb _ _ c.if-kind-eq-EVENT_CUSTOM.true)

pub returns-else-kind-eq-EVENT_CUSTOM : goal.returns-else-kind-eq-EVENT_CUSTOM
unfolding receiving
returns-else-kind-eq-EVENT_CUSTOM c = rw (ne_eqb _ _ c.if-kind-eq-EVENT_CUSTOM.false)
