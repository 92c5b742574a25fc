use Rattle.std.proofs.Common.{rules, tests, arith, refl, ap, ◌∙◌}
use Rattle.std.proofs.lemmas.Iterator.{YieldsList-from_range}
use Rattle.std.proofs.lemmas.Iterator.Search.{all_from_yields_List}
use Rattle.links.specs.Links.{net}
use Rattle.model.specs.Base.{all, from}
use Rattle.model.specs.Questions.{calls_inside}
use Rattle.circuit.proofs.Ranges.{range_all}
use Rattle.circuit.proofs.bodies.all_calls_inside.Goals as goal

-- `circuit::bodies::all_calls_inside` meets its contract.

pub returns : goal.returns
returns c =
    range_all (calls_inside (net c.args.links.now)) c.outputs.result _ (all_from_yields_List (calls_inside (net c.args.links.now)) _ _ c.all.result c.all.ensures.ran (YieldsList-from_range 0 c.outputs.result c.outputs.result refl (omega arith)) (λ x b q k. search (rules, tests)))
    ∙ ap (λ n. all (calls_inside (net c.args.links.now)) (from 0 n)) c.outputs.ensures.0
