use Rattle.settling.proofs.Turns.{puts_late, puts_pending, puts_after}
use Rattle.settling.proofs.put_off.Goals as goal

pub returns-in-Late : goal.returns-in-Late
returns-in-Late c = puts_late _ c.in-Late.is

pub returns-in-Pending : goal.returns-in-Pending
returns-in-Pending c = puts_pending _ c.in-Pending.is

pub returns-in-After : goal.returns-in-After
returns-in-After c = puts_after _ _ c.in-After.is
