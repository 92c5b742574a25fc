use native.Mathlib.Omega.{arith}
use borrow.Author.Rules.{rules}
use lib.ListN.{length}
use mathlib.Core.Path.{refl}
use Rattle.model.specs.Kinds.{kind_at}
use Rattle.model.specs.Questions.{within}
use Rattle.kinds.proofs.Laws.{few_inputs}
use Rattle.circuit.proofs.Loops.{counted_small}
use Rattle.circuit.proofs.Parts.{and_yes, and_no, gates_are}
use Rattle.circuit.proofs.Sized.{sized}
use Rattle.circuit.proofs.gates.gates.Goals as goal

-- `circuit::gates::gates` meets its contract. Question 1 says that the gates are there.

pub get-count-requires : goal.get-count-requires
get-count-requires c = omega (arith, sized c.args.circuit.now c.requires)

pub get-requires : goal.get-requires
get-requires c = omega (arith, sized c.args.circuit.now c.requires)

pub overflow_mul-first : goal.overflow_mul-first
overflow_mul-first c = omega (arith, sized c.args.circuit.now c.requires)

pub overflow_add-first : goal.overflow_add-first
overflow_add-first c = omega (arith, sized c.args.circuit.now c.requires)

pub get-inputs-requires : goal.get-inputs-requires
get-inputs-requires c = omega (arith, sized c.args.circuit.now c.requires)

pub invariant_of-kinds : goal.invariant_of-kinds
invariant_of-kinds c = omega (arith, sized c.args.circuit.now c.requires)

pub overflow_add-places : goal.overflow_add-places
overflow_add-places c = omega (arith, sized c.args.circuit.now c.requires)

pub invariant_of-places : goal.invariant_of-places
invariant_of-places c = omega (arith, sized c.args.circuit.now c.requires)

pub come_to-requires-clause-few : goal.come_to-requires-clause-few
come_to-requires-clause-few c = omega (arith, sized c.args.circuit.now c.requires)

pub come_to-requires-clause-small : goal.come_to-requires-clause-small
come_to-requires-clause-small c = λ w n k. counted_small (within 1 31 w) (length (kind_at w).ins) n 64 (omega (arith, few_inputs w)) (search rules)

pub returns-then-come_to : goal.returns-then-come_to
returns-then-come_to c =
    and_yes _ _ _ (gates_are _ _ _ _ _ _ c.get-count.ensures c.get.ensures c.get-inputs.ensures (c.come_to.ensures (within 1 31) (λ k. length (kind_at k).ins) (λ w n k. search rules)) (c.all.ensures (within 0 4259839) (λ w t k. search rules))) c.if-come_to.true

pub returns-else-come_to : goal.returns-else-come_to
returns-else-come_to c =
    and_no _ _ _ (gates_are _ _ _ _ _ _ c.get-count.ensures c.get.ensures c.get-inputs.ensures (c.come_to.ensures (within 1 31) (λ k. length (kind_at k).ins) (λ w n k. search rules)) refl) c.if-come_to.false
