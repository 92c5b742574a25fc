use Rattle.linking.proofs.GateByGate.{watched_exec, watched_always, watched_never}
use borrow.Enum.Refused.{opened}
use Rattle.linking.proofs.inputs.watched.Goals as goal

-- `watched` meets its contract. One law for each arm.

pub returns-in-Exec : goal.returns-in-Exec
returns-in-Exec c = watched_exec _ _ _ c.pin_at.ensures c.in-Exec.in-Exec-own.keys1

pub returns-in-Watched : goal.returns-in-Watched
returns-in-Watched c = watched_always _ _ _ c.pin_at.ensures c.in-Watched.in-Watched-own.keys2

pub returns-in_default : goal.returns-in_default
returns-in_default c = watched_never _ _ _ c.pin_at.ensures (opened c.in_default.in_default-own.keys3)
