use Rattle.asked.specs.Case.{case_of}
use Rattle.asked.proofs.case.CaseFromRefArrayU8HEAD.from.Goals as goal

pub returns : goal.returns
unfolding case_of
returns c = λ i. record { check = c.read.ensures i; refusal = c.read-2.ensures i; values = c.read-3.ensures i; units = c.read-4.ensures i; delays = c.read-5.ensures i; circuit = c.read-6.ensures i }
