use borrow.Author.Rules.{rules}
use mathlib.Core.Path.{refl}
use Rattle.lists.proofs.Answers.{refused}
use Rattle.opening.proofs.Acts.{events_next, events_full, events_last, events_stay}
use Rattle.opening.proofs.filing.deliver_all.Goals as goal

pub loop-e-init : goal.loop-e-init
loop-e-init c = (search rules, refl, λ v r h. h)

pub returns-in_err-deliver_event : goal.returns-in_err-deliver_event
returns-in_err-deliver_event c = rw (refused c.from_residual.result c.from_residual.ensures.0) (events_full _ _ _ _ _ _ _ _ (c.events-n.ensures.reads _) c.loop-e.invariant.1 c.loop-e.invariant.2 c.loop-e-test.true c.deliver_event.ensures c.in_err-deliver_event.was)

pub loop-e-preserved : goal.loop-e-preserved
loop-e-preserved c = (search rules, events_stay _ _ _ _ _ _ _ c.loop-e.invariant.1 c.deliver_event.ensures, events_next _ _ _ _ _ _ _ _ (c.events-n.ensures.reads _) c.loop-e.invariant.1 c.loop-e.invariant.2 c.loop-e-test.true c.deliver_event.ensures c.in_ok-deliver_event.was)

pub returns : goal.returns
returns c = events_last _ _ _ _ _ _ (c.events-n.ensures.reads _) c.loop-e.invariant.2 c.loop-e-test.false
