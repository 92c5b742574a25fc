use Rattle.links.proofs.Reading.{gate_input}
use borrow.Author.Rules.{rules}
use Rattle.links.proofs.Links.input.Goals as goal

pub returns : goal.returns
returns c = gate_input _ _ _ c.gate_entry.ensures _ (search rules)
