use borrow.Author.Rules.{rules}
use Rattle.lists.proofs.Answers.{refused}
use Rattle.chain.proofs.Rows.{forks_first, row_kept, forks_stop, forks_next, forks_end}
use mathlib.Core.Path.{refl}
use Rattle.chain.proofs.pushing.push_forks.Goals as goal

pub loop-k-init : goal.loop-k-init
loop-k-init c = (search rules, refl, forks_first _ _ _ _)

pub returns-in_err-fork_one : goal.returns-in_err-fork_one
returns-in_err-fork_one c = rw (refused c.from_residual.result c.from_residual.ensures.0) (forks_stop _ _ _ _ _ _ _ _ c.loop-k-test.true c.call.ensures c.loop-k.invariant.2 _ _ c.loop-k.invariant.1 (c.fork_one.ensures _) c.in_err-fork_one.was)

pub loop-k-preserved : goal.loop-k-preserved
loop-k-preserved c = (search rules, row_kept _ _ _ _ _ _ c.loop-k.invariant.1 (c.fork_one.ensures _), forks_next _ _ _ _ _ _ _ _ c.loop-k-test.true c.call.ensures c.loop-k.invariant.2 _ (c.fork_one.ensures _) c.in_ok-fork_one.was)

pub returns : goal.returns
returns c = forks_end _ _ _ _ _ _ _ _ c.loop-k-test.false c.loop-k.invariant.1 c.loop-k.invariant.2
