use Rattle.model.specs.Base.{if◌then◌otherwise◌}
use Rattle.model.specs.State.{elapsed≔}
use Rattle.model.specs.Delays.{pressed}
use Rattle.delays.specs.States.{stopwatch}
use Rattle.delays.proofs.stopwatch.Stopwatch.restart.Goals as goal

pub returns : goal.returns
unfolding stopwatch pressed elapsed≔ if◌then◌otherwise◌
returns c = c.resume.ensures
