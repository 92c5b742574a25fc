use borrow.Author.Rules.{rules}
use mathlib.Core.Path.{refl}
use Rattle.lists.proofs.Answers.{refused}
use Rattle.links.proofs.Walking.{gates_fewer}
use Rattle.opening.proofs.Acts.{hear_first, hear_next, hear_full, hear_last, events_stay}
use Rattle.opening.proofs.filing.deliver_event.Goals as goal

pub loop-r-init : goal.loop-r-init
loop-r-init c = (search rules, refl, c.first_gate-r.ensures, hear_first _ _ _ _ _ _ _ (c.sender-g.ensures _) c.kind_of_gate-kind.ensures c.setting-channel.ensures c.receivers-d.ensures)

pub returns-in_err-deliver_to : goal.returns-in_err-deliver_to
returns-in_err-deliver_to c = rw (refused c.from_residual.result c.from_residual.ensures.0) (hear_full _ _ _ _ _ _ _ _ _ _ _ _ c.loop-r.invariant.1 c.loop-r.invariant.2 c.loop-r.invariant.3 c.loop-r-test.true c.later_gates-d.ensures c.deliver_to.ensures c.in_err-deliver_to.was)

pub loop-r-smaller : goal.loop-r-smaller
loop-r-smaller c = gates_fewer _ _ _ c.loop-r.invariant.2 c.loop-r-test.true c.later_gates-d.ensures

pub loop-r-preserved : goal.loop-r-preserved
loop-r-preserved c = (search rules, events_stay _ _ _ _ _ _ _ c.loop-r.invariant.1 c.deliver_to.ensures, c.first_gate-r-in-loop-r.ensures, hear_next _ _ _ _ _ _ _ _ _ _ _ _ c.loop-r.invariant.1 c.loop-r.invariant.2 c.loop-r.invariant.3 c.loop-r-test.true c.later_gates-d.ensures c.deliver_to.ensures c.in_ok-deliver_to.was)

pub returns : goal.returns
returns c = hear_last _ _ _ _ _ _ _ _ _ c.loop-r.invariant.2 c.loop-r.invariant.3 c.loop-r-test.false
