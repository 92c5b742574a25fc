use borrow.Author.Rules.{rules}
use Rattle.links.specs.Links.{net}
use Rattle.circuit.specs.Gates.{awaited}
use Rattle.circuit.proofs.rings.all_awaited.Goals as goal

pub returns : goal.returns
returns c = c.words_of_gates.ensures (awaited (net c.args.links.now)) (λ g y k. search rules)
