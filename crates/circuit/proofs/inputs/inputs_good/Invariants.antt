use mathlib.Core.Path.{◌≡◌}
use Rattle.words.specs.Words.{words}
use Rattle.model.specs.Questions.{question_4}
use Rattle.links.specs.Links.{net}
use Rattle.circuit.proofs.Rows.{input_test}
use Rattle.circuit.proofs.Turns.{all_from}
use Rattle.circuit.proofs.inputs.inputs_good.Given as goal

abbrev pub invariant-loop-i : goal.invariant-loop-i
invariant-loop-i l = all_from (input_test (words l.circuit) (net l.links) l.first l.n) l.n l.i ≡ question_4 (words l.circuit) (net l.links)
