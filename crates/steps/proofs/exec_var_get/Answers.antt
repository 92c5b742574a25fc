use Rattle.steps.proofs.Wiring.{gets}
use Rattle.steps.proofs.exec_var_get.Goals as goal

pub returns : goal.returns
returns c = gets _ _ _ _ _ _ _ _ c.var.ensures c.shown-v.ensures c.output.ensures c.set_out.ensures c.output-2.ensures
