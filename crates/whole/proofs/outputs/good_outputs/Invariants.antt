use mathlib.Core.Path.{◌≡◌}
use Rattle.words.specs.Words.{words}
use Rattle.links.specs.Links.{net}
use Rattle.records.specs.Whole.{good_outputs}
use Rattle.whole.proofs.Showing.{outputs_left}
use Rattle.whole.proofs.outputs.good_outputs.Given as goal

abbrev pub invariant-loop-i : goal.invariant-loop-i
invariant-loop-i l = outputs_left (net l.links) l.log l.k l.n l.i ≡ good_outputs (net l.links) (words l.log) l.k l.n
