use borrow.Author.Rules.{rules}
use Rattle.lists.proofs.Answers.{refused}
use mathlib.Core.Path.{ap, ◌∙◌}
use Rattle.model.specs.Opening.{advance_buffer}
use Rattle.links.specs.Links.{gates_of_word}
use Rattle.links.proofs.Reading.{buffers_of}
use Rattle.links.proofs.Walking.{gates_fewer}
use Rattle.opening.proofs.Stages.{leads_first, leads_next, leads_full, leads_last, buffer_adds}
use Rattle.opening.proofs.moving.advance_buffers.Goals as goal

pub loop-g-init : goal.loop-g-init
loop-g-init c = (search rules, search rules, search rules, search rules, c.first_gate-g.ensures, leads_first _ (advance_buffer _ _) _ _ _ (ap gates_of_word c.buffers-d.ensures ∙ buffers_of _))

pub returns-in_err-advance_buffer-clause-over_all : goal.returns-in_err-advance_buffer-clause-over_all
returns-in_err-advance_buffer-clause-over_all c = rw (refused c.from_residual.result c.from_residual.ensures.0) (leads_full _ (advance_buffer _ _) (buffer_adds _ _) _ _ _ _ _ _ _ _ c.loop-g.invariant.5 c.loop-g.invariant.4 c.loop-g-test.true c.later_gates-d.ensures c.advance_buffer.ensures.over_all c.in_err-advance_buffer.was)

pub loop-g-smaller : goal.loop-g-smaller
loop-g-smaller c = gates_fewer _ _ _ c.loop-g.invariant.4 c.loop-g-test.true c.later_gates-d.ensures

pub loop-g-preserved : goal.loop-g-preserved
loop-g-preserved c = (search rules, search rules, search rules, c.advance_buffer.ensures.slots_stay, c.first_gate-g-in-loop-g.ensures, leads_next _ (advance_buffer _ _) (buffer_adds _ _) _ _ _ _ _ _ _ _ c.loop-g.invariant.5 c.loop-g.invariant.4 c.loop-g-test.true c.later_gates-d.ensures c.advance_buffer.ensures.over_all c.in_ok-advance_buffer.was)

pub returns-clause-over_all : goal.returns-clause-over_all
returns-clause-over_all c = leads_last _ (advance_buffer _ _) _ _ _ _ _ c.loop-g.invariant.5 c.loop-g.invariant.4 c.loop-g-test.false
