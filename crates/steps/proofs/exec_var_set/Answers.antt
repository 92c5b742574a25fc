use Rattle.steps.proofs.Wiring.{sets}
use Rattle.steps.proofs.exec_var_set.Goals as goal

pub returns : goal.returns
returns c = sets _ _ _ _ _ _ _ _ _ _ _ c.input-i.ensures c.var-o.ensures c.ready.ensures c.look-v.ensures c.show.ensures c.record_write.ensures c.output.ensures
