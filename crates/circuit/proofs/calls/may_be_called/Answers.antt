use Rattle.circuit.proofs.Asking.{input_called}
use Rattle.circuit.proofs.calls.may_be_called.Goals as goal

pub returns : goal.returns
returns c = input_called _ _ _ _ c.pin_at.ensures c.takes_calls.ensures
