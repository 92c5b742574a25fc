use Rattle.std.proofs.Common.{rules, tests, arith, refl, ap, ◌∙◌}
use Rattle.std.proofs.lemmas.Iterator.{YieldsList-from_range}
use Rattle.std.proofs.lemmas.Iterator.Search.{all_from_yields_List}
use Rattle.links.specs.Links.{net}
use Rattle.model.specs.Base.{all, from}
use Rattle.model.specs.Circuit.{gates}
use Rattle.circuit.specs.Bodies.{well_placed}
use Rattle.circuit.proofs.Ranges.{range_all}
use Rattle.circuit.proofs.bodies.gates_good.Goals as goal

-- `circuit::bodies::gates_good` meets its contract.

pub returns : goal.returns
unfolding gates
returns c =
    range_all (well_placed (net c.args.links.now)) c.gates.result _ (all_from_yields_List (well_placed (net c.args.links.now)) _ _ c.all.result c.all.ensures.ran (YieldsList-from_range 0 c.gates.result c.gates.result refl (omega arith)) (λ x b q k. search (rules, tests)))
    ∙ ap (λ n. all (well_placed (net c.args.links.now)) (from 0 n)) c.gates.ensures.0
