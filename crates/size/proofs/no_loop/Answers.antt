use Rattle.std.proofs.Common.{rules, tests, arith, refl, ◌∙◌}
use Rattle.std.proofs.lemmas.Iterator.{YieldsList-from_range}
use Rattle.std.proofs.lemmas.Iterator.Search.{all_from_yields_List}
use Prim.Native.Nat.{ℕ}
use mathlib.Core.Bool.{Bool, not}
use lib.Dec.{eqb}
use Rattle.model.specs.Kinds.{Loop}
use Rattle.model.specs.Circuit.{kind_of_gate}
use Rattle.links.specs.Links.{net}
use Rattle.circuit.proofs.Ranges.{range_all}
use Rattle.size.proofs.Starts.{loop_free}
use Rattle.size.proofs.no_loop.Goals as goal

pub returns : goal.returns
returns c =
    let test : ℕ → Bool = λ g. not (eqb (kind_of_gate (net c.args.links.now) g) Loop) in
    range_all test c.gates.result _ (all_from_yields_List test _ _ c.all.result c.all.ensures.ran (YieldsList-from_range 0 c.gates.result c.gates.result refl (omega arith)) (λ x b q k. search (rules, tests)))
    ∙ loop_free _ _ c.gates.ensures.0
