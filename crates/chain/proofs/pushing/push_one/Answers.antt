use Rattle.chain.proofs.Fits.{one_fork, one_call}
use Rattle.chain.proofs.pushing.push_one.Goals as goal

pub returns-then-is_remote : goal.returns-then-is_remote
returns-then-is_remote c = λ d. one_fork d _ _ _ c.is_remote.ensures _ _ _ c.if-is_remote.true c.called_input.ensures (c.push_fork.ensures d)

pub returns : goal.returns
returns c = λ d. one_call d _ _ _ c.is_remote.ensures _ _ _ c.if-is_remote.false c.called_input-2.ensures (c.push_call.ensures d)
