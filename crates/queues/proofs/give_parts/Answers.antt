use Rattle.queues.proofs.Starting.{running_first, running_small, numbered_first, give_next, give_last}
use mathlib.Core.Path.{refl, ◌∙◌}
use borrow.Author.Rules.{rules}
use Rattle.queues.proofs.give_parts.Goals as goal

pub loop-g-init : goal.loop-g-init
loop-g-init c = (search rules, running_first _, numbered_first _ _, refl)

pub give_part-n-requires : goal.give_part-n-requires
give_part-n-requires c = running_small _ _ _ _ c.gates-count.ensures c.loop-g.invariant.1 c.loop-g-test.true

pub loop-g-preserved : goal.loop-g-preserved
loop-g-preserved c = let q = give_next _ _ _ _ _ _ _ _ (search rules) c.gates-count.ensures c.loop-g.invariant.1 c.loop-g.invariant.2 c.loop-g-test.true c.give_part-n.ensures in (search rules, q.0, q.1, c.give_part-n.ensures.1 ∙ c.loop-g.invariant.3)

pub returns : goal.returns
returns c = (give_last _ _ _ _ _ c.gates-count.ensures c.loop-g-test.false c.loop-g.auto.g-end c.loop-g.invariant.2, c.loop-g.invariant.3)
