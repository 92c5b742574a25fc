use Rattle.asked.specs.SizeDue.{size_due_of}
use Rattle.asked.proofs.size_due.SizeDueFromRefArrayU8SIZEHEAD.from.Goals as goal

pub returns : goal.returns
unfolding size_due_of
returns c = λ i. record { ticks = c.read.ensures i; told = c.read-2.ensures i; number = c.read-3.ensures i; steps = c.read-4.ensures i; bytes = c.read-5.ensures i; circuit = c.read-6.ensures i }
