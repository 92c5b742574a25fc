use borrow.Author.Rules.{rules}
use Rattle.lists.proofs.Answers.{refused}
use Rattle.chain.proofs.Rows.{row_kept, stack_stop, stack_next, stack_end}
use mathlib.Core.Path.{refl}
use Rattle.chain.proofs.pushing.push_stack.Goals as goal

pub loop-k-init : goal.loop-k-init
loop-k-init c = (search rules, refl, refl)

pub returns-in_err-stack_one : goal.returns-in_err-stack_one
returns-in_err-stack_one c = rw (refused c.from_residual.result c.from_residual.ensures.0) (stack_stop _ _ _ _ _ _ _ c.loop-k-test.true c.call.ensures c.loop-k.invariant.2 _ _ c.loop-k.invariant.1 (c.stack_one.ensures _) c.in_err-stack_one.was)

pub loop-k-preserved : goal.loop-k-preserved
loop-k-preserved c = (search rules, row_kept _ _ _ _ _ _ c.loop-k.invariant.1 (c.stack_one.ensures _), stack_next _ _ _ _ _ _ _ c.loop-k-test.true c.call.ensures c.loop-k.invariant.2 _ (c.stack_one.ensures _) c.in_ok-stack_one.was)

pub returns : goal.returns
returns c = stack_end _ _ _ _ _ _ _ c.loop-k-test.false c.loop-k.invariant.1 c.loop-k.invariant.2
