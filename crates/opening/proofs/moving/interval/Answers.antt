use Rattle.opening.proofs.Advancing.{interval_is}
use Rattle.opening.proofs.moving.interval.Goals as goal

pub returns : goal.returns
returns c = interval_is _ _ _ _ _ _ _ _ c.setting.ensures c.as_float-other.ensures c.look.ensures c.as_float.ensures
