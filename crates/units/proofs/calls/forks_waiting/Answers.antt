use mathlib.Core.Path.{ap, ◌∙◌}
use lib.ListN.{length}
use Rattle.units.proofs.Calling.{forks_lent}
use Rattle.units.proofs.calls.forks_waiting.Goals as goal

pub returns : goal.returns
returns c = λ k. c.count.ensures.value_2 ∙ ap length (forks_lent k c.args.units.now)
