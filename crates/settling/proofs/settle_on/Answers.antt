use borrow.Author.Rules.{rules}
use native.Mathlib.Nat.{sub-zero}
use native.Mathlib.Omega.{arith}
use Rattle.lists.proofs.Answers.{refused}
use Rattle.settling.proofs.Turns.{left_idle, left_full, left_next, left_none}
use mathlib.Core.Path.{refl}
use Rattle.settling.proofs.settle_on.Goals as goal

pub loop-init : goal.loop-init
loop-init c = (search rules, search rules, search rules, c.requires.2, rw sub-zero (refl, refl))

pub returns-in_err-checked-clause-over_all : goal.returns-in_err-checked-clause-over_all
returns-in_err-checked-clause-over_all c = rw (refused c.from_residual.result c.from_residual.ensures.0) (left_full _ _ _ _ _ _ _ _ (omega (arith, c.loop-test.true)) c.loop.invariant.4 c.check_next.ensures.over_all c.in_err-checked.was)

pub returns-then-not-checked-clause-over_all : goal.returns-then-not-checked-clause-over_all
returns-then-not-checked-clause-over_all c = left_idle _ _ _ _ _ _ _ _ (omega (arith, c.loop-test.true)) c.loop.invariant.4 c.check_next.ensures.over_all _ c.in_ok-checked.was c.if-not-checked.true

pub loop-preserved : goal.loop-preserved
loop-preserved c = (search rules, search rules, search rules, c.check_next.ensures.slots_stay, left_next _ _ _ _ _ _ _ _ (omega (arith, c.loop-test.true)) c.loop.invariant.4 c.check_next.ensures.over_all _ c.in_ok-checked.was c.if-not-checked.false _ (omega (arith, c.loop-test.true)))

pub returns-clause-over_all : goal.returns-clause-over_all
returns-clause-over_all c = left_none _ _ _ _ _ _ (omega (arith, c.loop-test.false)) c.loop.invariant.4
