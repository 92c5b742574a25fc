use Rattle.steps.proofs.Wiring.{toggles}
use Rattle.steps.proofs.exec_toggle.Goals as goal

pub returns : goal.returns
returns c = toggles _ _ _ _ _ _ _ _ c.output-o.ensures c.shown-v.ensures c.truthy.ensures c.set_out.ensures c.output.ensures
