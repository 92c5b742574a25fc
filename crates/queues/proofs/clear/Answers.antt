use Rattle.queues.proofs.Starting.{cleared_first, cleared_next, cleared_last}
use mathlib.Core.Path.{refl, ◌∙◌}
use borrow.Author.Rules.{rules}
use Rattle.queues.proofs.clear.Goals as goal

pub loop-k-init : goal.loop-k-init
loop-k-init c = (search rules, cleared_first _, refl)

pub loop-k-preserved : goal.loop-k-preserved
loop-k-preserved c = (search rules, cleared_next _ _ _ _ (search rules) c.loop-k-test.true c.loop-k.invariant.1 c.put.ensures.words, c.put.ensures.tail ∙ c.loop-k.invariant.2)

pub returns : goal.returns
returns c = (cleared_last _ _ _ c.loop-k-test.false c.loop-k.invariant.1, c.loop-k.invariant.2)
