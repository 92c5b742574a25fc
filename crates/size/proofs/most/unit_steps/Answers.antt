use Rattle.size.proofs.Starts.{figure}
use borrow.Author.Rules.{rules}
use Rattle.size.proofs.most.unit_steps.Goals as goal

pub returns : goal.returns
returns c = figure _ _ _ _ _ c.requires c.of_inputs.ensures c.of_outputs.ensures (search rules)
