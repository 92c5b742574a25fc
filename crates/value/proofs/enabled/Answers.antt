use Rattle.model.specs.Opening.{enabled}
use Rattle.value.proofs.Laws.{truth_enables}
use Rattle.value.proofs.enabled.Goals as goal

pub returns-in-Nothing : goal.returns-in-Nothing
unfolding enabled
returns-in-Nothing c = rw c.in-Nothing.is

pub returns-in_default : goal.returns-in_default
returns-in_default c = truth_enables c.args.v _ c.in_default.not-Nothing c.truthy.ensures
