use borrow.Author.Rules.{rules}
use Rattle.lists.proofs.Answers.{refused}
use Rattle.opening.proofs.Acts.{fires_first, fires_next, fires_full, fires_last}
use Rattle.opening.proofs.filing.fire_late.Goals as goal

pub loop-init : goal.loop-init
loop-init c = (search rules, fires_first _ _ _ _)

pub returns-in_err-activate : goal.returns-in_err-activate
returns-in_err-activate c = rw (refused c.from_residual.result c.from_residual.ensures.0) (fires_full _ _ _ _ _ _ _ _ _ c.requires.1 c.entry-x.ensures c.loop.invariant.1 c.loop-test.true c.activate.ensures c.in_err-activate.was)

pub loop-preserved : goal.loop-preserved
loop-preserved c = (search rules, fires_next _ _ _ _ _ _ _ _ _ c.requires.1 c.entry-x.ensures c.loop.invariant.1 c.loop-test.true c.activate.ensures c.in_ok-activate.was)

pub returns : goal.returns
returns c = fires_last _ _ _ _ _ _ c.loop.invariant.1 c.loop-test.false
