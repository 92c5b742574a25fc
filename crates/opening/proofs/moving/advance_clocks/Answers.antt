use borrow.Author.Rules.{rules}
use Rattle.lists.proofs.Answers.{refused}
use mathlib.Core.Path.{ap, ◌∙◌}
use Rattle.model.specs.Opening.{advance_clock}
use Rattle.links.specs.Links.{gates_of_word}
use Rattle.links.proofs.Reading.{clocks_of}
use Rattle.links.proofs.Walking.{gates_fewer}
use Rattle.opening.proofs.Stages.{leads_first, leads_next, leads_full, leads_last, clock_adds}
use Rattle.opening.proofs.moving.advance_clocks.Goals as goal

pub loop-g-init : goal.loop-g-init
loop-g-init c = (search rules, search rules, search rules, search rules, c.first_gate-g.ensures, leads_first _ (advance_clock _) _ _ _ (ap gates_of_word c.clocks-d.ensures ∙ clocks_of _))

pub returns-in_err-advance_clock-clause-over_all : goal.returns-in_err-advance_clock-clause-over_all
returns-in_err-advance_clock-clause-over_all c = rw (refused c.from_residual.result c.from_residual.ensures.0) (leads_full _ (advance_clock _) (clock_adds _) _ _ _ _ _ _ _ _ c.loop-g.invariant.5 c.loop-g.invariant.4 c.loop-g-test.true c.later_gates-d.ensures c.advance_clock.ensures.over_all c.in_err-advance_clock.was)

pub loop-g-smaller : goal.loop-g-smaller
loop-g-smaller c = gates_fewer _ _ _ c.loop-g.invariant.4 c.loop-g-test.true c.later_gates-d.ensures

pub loop-g-preserved : goal.loop-g-preserved
loop-g-preserved c = (search rules, search rules, search rules, c.advance_clock.ensures.slots_stay, c.first_gate-g-in-loop-g.ensures, leads_next _ (advance_clock _) (clock_adds _) _ _ _ _ _ _ _ _ c.loop-g.invariant.5 c.loop-g.invariant.4 c.loop-g-test.true c.later_gates-d.ensures c.advance_clock.ensures.over_all c.in_ok-advance_clock.was)

pub returns-clause-over_all : goal.returns-clause-over_all
returns-clause-over_all c = leads_last _ (advance_clock _) _ _ _ _ _ c.loop-g.invariant.5 c.loop-g.invariant.4 c.loop-g-test.false
