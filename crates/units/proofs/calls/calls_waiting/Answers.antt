use mathlib.Core.Path.{ap, ◌∙◌}
use lib.ListN.{length}
use Rattle.units.proofs.Calling.{stack_lent}
use Rattle.units.proofs.calls.calls_waiting.Goals as goal

pub returns : goal.returns
returns c = λ k. c.count.ensures.value ∙ ap length (stack_lent k c.args.units.now)
