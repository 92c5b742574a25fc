use Rattle.links.proofs.Reading.{gate_output}
use borrow.Author.Rules.{rules}
use Rattle.links.proofs.Links.output.Goals as goal

pub returns : goal.returns
returns c = gate_output _ _ _ c.gate_entry.ensures _ (search rules)
