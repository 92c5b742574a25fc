use Rattle.lists.proofs.Answers.{refused}
use Rattle.chain.proofs.Rows.{all_stop, all_done}
use Rattle.chain.proofs.pushing.push_all.Goals as goal

pub returns-in_err-push_forks : goal.returns-in_err-push_forks
returns-in_err-push_forks c = rw (refused c.from_residual.result c.from_residual.ensures.0) (all_stop _ _ _ _ c.push_forks.ensures c.in_err-push_forks.was)

pub returns : goal.returns
returns c = all_done _ _ _ _ c.push_forks.ensures c.in_ok-push_forks.was _ _ c.push_stack.ensures
