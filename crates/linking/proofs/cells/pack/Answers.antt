use borrow.Author.Rules.{rules}
use Rattle.links.specs.Links.{packed}
use Rattle.linking.proofs.cells.pack.Goals as goal

-- `pack` meets its contract.

pub returns : goal.returns
unfolding packed
returns c = search rules
