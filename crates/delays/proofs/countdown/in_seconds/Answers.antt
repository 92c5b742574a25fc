use Rattle.delays.proofs.Countdowns.{seconds_in}
use Rattle.delays.proofs.countdown.in_seconds.Goals as goal

pub returns : goal.returns
returns c = seconds_in _ _ _ c.narrow-w.ensures
