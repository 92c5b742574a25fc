use Rattle.whole.proofs.Showing.{nothing_shown, exec_shows, value_shows}
use mathlib.Core.Path.{ap}
use mathlib.Core.Bool.{not}
use Rattle.whole.proofs.outputs.good_output.Goals as goal

pub returns-then-kind-eq-NOTHING : goal.returns-then-kind-eq-NOTHING
returns-then-kind-eq-NOTHING c = nothing_shown _ _ _ c.if-kind-eq-NOTHING.true

pub returns-then-not-value_output : goal.returns-then-not-value_output
returns-then-not-value_output c = exec_shows _ _ _ _ c.if-kind-eq-NOTHING.false _ c.value_output.ensures (ap not c.if-not-value_output.true)

pub returns : goal.returns
returns c = value_shows _ _ _ _ c.if-kind-eq-NOTHING.false _ c.value_output.ensures _ (ap not c.if-not-value_output.false) c.good_constant.ensures
