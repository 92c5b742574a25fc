use Rattle.walk.proofs.Outputs.{stop_tested}
use Rattle.walk.proofs.unstopped.Goals as goal

pub returns : goal.returns
returns c = stop_tested c.args.log.now c.args.at c.read.ensures
