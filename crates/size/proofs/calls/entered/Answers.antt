use Rattle.size.specs.Numbers.{entered}
use Rattle.size.proofs.calls.entered.Goals as goal

pub returns : goal.returns
unfolding entered
returns c = rw (c.gate_at_input.ensures, c.called_input.ensures, c.call.ensures)
