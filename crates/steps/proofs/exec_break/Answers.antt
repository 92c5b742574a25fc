use Rattle.steps.proofs.Wiring.{breaks}
use Rattle.steps.proofs.exec_break.Goals as goal

-- src/lib.rt:207:1
pub returns : goal.returns
returns c = breaks _ _ _ _ _ c.set_breaking.ensures c.output.ensures
