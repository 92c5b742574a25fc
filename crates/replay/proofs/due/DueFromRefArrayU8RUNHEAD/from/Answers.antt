use Rattle.replay.specs.Due.{due_of}
use Rattle.replay.proofs.due.DueFromRefArrayU8RUNHEAD.from.Goals as goal

pub returns : goal.returns
unfolding due_of
returns c = λ i. record { log = c.read.ensures i; values = c.read-2.ensures i; units = c.read-3.ensures i; delays = c.read-4.ensures i; stop = c.read-5.ensures i; ticks = c.read-6.ensures i; circuit = c.read-7.ensures i; script = c.read-8.ensures i; records = c.read-9.ensures i }
