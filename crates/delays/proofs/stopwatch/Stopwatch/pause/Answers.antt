use Rattle.delays.proofs.Timers.{pressed_pause}
use Rattle.delays.proofs.stopwatch.Stopwatch.pause.Goals as goal

pub returns : goal.returns
returns c = pressed_pause c.args.self
