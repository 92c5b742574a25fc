use Rattle.passes.proofs.Beginning.{takes_late, takes_event, takes_nothing}
use Rattle.passes.proofs.next_late.Goals as goal

pub returns-in-Some : goal.returns-in-Some
returns-in-Some c = λ k. takes_late k _ _ _ (c.take_late.ensures k) _ c.in-Some.is

pub returns-in_err-x : goal.returns-in_err-x
returns-in_err-x c = rw c.from_residual.ensures (λ k. takes_nothing k _ _ _ (c.take_late.ensures k) _ _ (c.take_delivered.ensures k) c.in_default.is c.in_err-x.was)

pub returns : goal.returns
returns c = λ k. takes_event k _ _ _ (c.take_late.ensures k) _ _ (c.take_delivered.ensures k) _ c.in_default.is c.in_ok-x.was
