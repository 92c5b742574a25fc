use Rattle.std.proofs.Common.{ap, ◌∙◌, rules}
use Rattle.words.specs.Bits.{bits_left}
use Rattle.wires.proofs.Lists.{items_first, item_next, items_over}
use Rattle.wires.proofs.Recomputing.{refresh_first}
use Rattle.wires.proofs.refreshing.refresh_all.Goals as goal

pub loop-g-init : goal.loop-g-init
loop-g-init c = (search rules, items_first _ _ _ _ _ (ap bits_left c.into_iter-g-iterator.ensures.into_iter_gives ∙ c.of-g-items.ensures) (refresh_first _ _ _ c.get.ensures))

pub loop-g-preserved : goal.loop-g-preserved
loop-g-preserved c = (search rules, item_next _ _ _ _ _ _ _ c.in-Some.ensures.steps c.refresh.ensures c.loop-g.invariant.1)

pub returns : goal.returns
returns c = items_over _ _ _ _ c.in-None.ensures.steps.0 c.loop-g.invariant.1
