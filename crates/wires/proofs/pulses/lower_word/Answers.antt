use Rattle.std.proofs.Common.{ap, ◌∙◌, arith, rules}
use Rattle.words.specs.Bits.{bits_left}
use Rattle.words.proofs.Tables.{bit_below}
use Rattle.wires.proofs.Lists.{items_first, item_next, items_over}
use Rattle.wires.proofs.Pulsing.{word_first}
use Rattle.wires.proofs.pulses.lower_word.Goals as goal

pub loop-b-init : goal.loop-b-init
loop-b-init c = (search rules, items_first _ _ _ _ _ (ap bits_left c.into_iter-b-iterator.ensures.into_iter_gives ∙ c.of-b-items.ensures) (word_first _ _ _ _ (search rules) (search rules) c.get.ensures))

pub overflow_add-j-in-loop-b : goal.overflow_add-j-in-loop-b
overflow_add-j-in-loop-b c = omega (arith, bit_below _ _ _ c.in-Some.ensures.steps, c.requires.1)

pub loop-b-preserved : goal.loop-b-preserved
loop-b-preserved c = (search rules, item_next _ _ _ _ _ _ _ c.in-Some.ensures.steps c.lower.ensures c.loop-b.invariant.1)

pub returns : goal.returns
returns c = items_over _ _ _ _ c.in-None.ensures.steps.0 c.loop-b.invariant.1
