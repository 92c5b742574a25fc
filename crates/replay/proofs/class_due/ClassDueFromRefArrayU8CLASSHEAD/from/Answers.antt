use Rattle.replay.specs.ClassDue.{class_due_of}
use Rattle.replay.proofs.class_due.ClassDueFromRefArrayU8CLASSHEAD.from.Goals as goal

pub returns : goal.returns
unfolding class_due_of
returns c = λ i. record { log = c.read.ensures i; values = c.read-2.ensures i; units = c.read-3.ensures i; delays = c.read-4.ensures i; told = c.read-5.ensures i; number = c.read-6.ensures i; cleared = c.read-7.ensures i; circuit = c.read-8.ensures i; book = c.read-9.ensures i; words = c.read-10.ensures i; part = c.read-11.ensures i; parts = c.read-12.ensures i }
