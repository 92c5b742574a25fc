use mathlib.Core.Path.{◌∙◌}
use borrow.Author.Rules.{rules}
use Rattle.links.specs.Links.{net}
use Rattle.size.proofs.Starts.{exec_at, output_number, output_counts, all_outputs}
use Rattle.size.proofs.most.of_outputs.Goals as goal

pub returns : goal.returns
returns c = c.greatest.ensures (exec_at (net c.args.links.now)) (output_number (net c.args.links.now) c.args.numbers.now) (λ i x l k. output_counts (net c.args.links.now) c.args.numbers.now _ i x c.outputs.ensures.0 l (search rules)) ∙ all_outputs _ _ _ c.outputs.ensures.0
