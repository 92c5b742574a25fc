use native.Mathlib.Omega.{arith}
use borrow.Author.Rules.{rules}
use Rattle.model.specs.Questions.{within}
use Rattle.circuit.proofs.Parts.{queues_are}
use Rattle.circuit.proofs.Sized.{sized}
use Rattle.circuit.proofs.areas.queues.Goals as goal

-- `circuit::areas::queues` meets its contract. Question 1 says that the gates are there.

pub get-requires : goal.get-requires
get-requires c = omega (arith, sized c.args.circuit.now c.requires)

pub get-requires-2 : goal.get-requires-2
get-requires-2 c = omega (arith, sized c.args.circuit.now c.requires)

pub overflow_mul-gates : goal.overflow_mul-gates
overflow_mul-gates c = omega (arith, sized c.args.circuit.now c.requires)

pub overflow_add-gates : goal.overflow_add-gates
overflow_add-gates c = omega (arith, sized c.args.circuit.now c.requires)

pub invariant_of-gates : goal.invariant_of-gates
invariant_of-gates c = omega (arith, sized c.args.circuit.now c.requires)

pub returns : goal.returns
returns c = queues_are _ _ _ _ c.get-2.ensures c.get.ensures (c.passing.ensures (within 16 17) (λ w t k. search rules))
