use mathlib.Core.Path.{◌∙◌}
use borrow.Author.Rules.{rules}
use Rattle.links.specs.Links.{net}
use Rattle.size.proofs.Starts.{EAt, input_number, all_inputs}
use Rattle.size.proofs.most.of_inputs.Goals as goal

pub returns : goal.returns
returns c = c.greatest.ensures (EAt (net c.args.links.now)) (input_number (net c.args.links.now) c.args.numbers.now) (λ i x l k. search rules) ∙ all_inputs _ _ _ c.inputs.ensures.0
