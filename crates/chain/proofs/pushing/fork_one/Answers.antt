use Rattle.chain.proofs.Fits.{fork_one, fork_none}
use Rattle.chain.proofs.pushing.fork_one.Goals as goal

pub returns-then-is_remote : goal.returns-then-is_remote
returns-then-is_remote c = λ d. fork_one d _ _ _ c.is_remote.ensures _ _ _ c.if-is_remote.true c.called_input.ensures (c.push_fork.ensures d)

pub returns : goal.returns
returns c = λ d. fork_none d _ _ _ c.is_remote.ensures c.if-is_remote.false
