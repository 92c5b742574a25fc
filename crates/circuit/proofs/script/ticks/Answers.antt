use native.Mathlib.Omega.{arith}
use borrow.Author.Rules.{rules}
use mathlib.Core.Path.{refl, ◌∙◌}
use Rattle.model.specs.Questions.{good_length, within}
use Rattle.circuit.proofs.Loops.{within_small, plain_sum}
use Rattle.circuit.proofs.Parts.{and_yes, and_no, ticks_are}
use Rattle.circuit.proofs.Sized.{script_sized}
use Rattle.circuit.proofs.script.ticks.Goals as goal

-- `circuit::script::ticks` meets its contract. Question 8 says that the ticks are there.

pub get-count-requires : goal.get-count-requires
get-count-requires c = omega (arith, script_sized c.args.script.now c.requires)

pub get-stimuli-requires : goal.get-stimuli-requires
get-stimuli-requires c = omega (arith, script_sized c.args.script.now c.requires)

pub invariant_of-lengths : goal.invariant_of-lengths
invariant_of-lengths c = omega (arith, script_sized c.args.script.now c.requires)

pub overflow_add-counts : goal.overflow_add-counts
overflow_add-counts c = omega (arith, script_sized c.args.script.now c.requires)

pub invariant_of-counts : goal.invariant_of-counts
invariant_of-counts c = omega (arith, script_sized c.args.script.now c.requires)

pub come_to-requires-clause-few : goal.come_to-requires-clause-few
come_to-requires-clause-few c = omega (arith, script_sized c.args.script.now c.requires)

pub come_to-requires-clause-small : goal.come_to-requires-clause-small
come_to-requires-clause-small c = λ w n k. within_small 64 w n k

pub returns-then-all : goal.returns-then-all
returns-then-all c =
    and_yes _ _ _ (ticks_are _ _ _ _ _ c.get-count.ensures c.get-stimuli.ensures (c.all.ensures good_length (λ w t k. search rules)) (c.come_to.ensures (within 0 64) (λ n. n) (λ w n k. search rules) ∙ plain_sum _ _ _)) c.if-all.true

pub returns-else-all : goal.returns-else-all
returns-else-all c =
    and_no _ _ _ (ticks_are _ _ _ _ _ c.get-count.ensures c.get-stimuli.ensures (c.all.ensures good_length (λ w t k. search rules)) refl) c.if-all.false
