use Rattle.delays.proofs.Timers.{pressed_resume}
use Rattle.delays.proofs.stopwatch.Stopwatch.resume.Goals as goal

pub returns : goal.returns
returns c = pressed_resume c.args.self
