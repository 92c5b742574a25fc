use Rattle.std.proofs.Common.{rules, tests, arith, refl, ◌∙◌}
use Rattle.std.proofs.lemmas.Iterator.{YieldsList-from_range}
use Rattle.std.proofs.lemmas.Iterator.Search.{all_from_yields_List}
use Rattle.links.specs.Links.{net}
use Prim.Native.Nat.{ℕ, ◌+◌}
use mathlib.Core.Bool.{Bool}
use Rattle.links.specs.Links.{target}
use Rattle.circuit.proofs.Nested.{inside, row_tested}
use Rattle.circuit.proofs.Ranges.{range_all}
use Rattle.circuit.proofs.bodies.calls_inside.Goals as goal

-- `circuit::bodies::calls_inside` meets its contract.

pub returns : goal.returns
returns c =
    let test : ℕ → Bool = λ k. inside (net c.args.links.now) c.args.o (target c.args.links.now (c.first_call-first.result + k)) in
    range_all test c.call_count-n.result _ (all_from_yields_List test _ _ c.all.result c.all.ensures.ran (YieldsList-from_range 0 c.call_count-n.result c.call_count-n.result refl (omega arith)) (λ x b q k. search (rules, tests)))
    ∙ row_tested _ _ _ _ c.first_call-first.ensures c.call_count-n.ensures
