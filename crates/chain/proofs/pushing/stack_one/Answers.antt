use Rattle.chain.proofs.Fits.{stack_one, stack_none}
use Rattle.chain.proofs.pushing.stack_one.Goals as goal

pub returns-then-is_remote : goal.returns-then-is_remote
returns-then-is_remote c = λ d. stack_none d _ _ _ c.is_remote.ensures c.if-is_remote.true

pub returns : goal.returns
returns c = λ d. stack_one d _ _ _ c.is_remote.ensures _ _ _ c.if-is_remote.false c.called_input.ensures (c.push_call.ensures d)
