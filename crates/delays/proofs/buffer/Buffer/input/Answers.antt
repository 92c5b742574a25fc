use Rattle.delays.proofs.Buffers.{input_starts, input_remembered}
use Rattle.delays.proofs.buffer.Buffer.input.Goals as goal

pub returns-in-None : goal.returns-in-None
returns-in-None c = input_starts _ _ _ c.in-None.is

pub returns-in-Some : goal.returns-in-Some
returns-in-Some c = input_remembered _ _ _ _ c.in-Some.is
