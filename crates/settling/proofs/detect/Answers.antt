use mathlib.Core.Path.{ap}
use Rattle.states.specs.View.{Delays}
use Rattle.states.proofs.Lending.{lent_kept}
use Rattle.settling.proofs.Changes.{change_6, change_7, change_8, change_9, change_buffer, change_pin}
use borrow.Author.Rules.{rules}
use Rattle.settling.proofs.detect.Goals as goal

pub returns-in-6-clause-acts_in_both : goal.returns-in-6-clause-acts_in_both
returns-in-6-clause-acts_in_both c = change_6 _ _ _ _ _ _ _ _ c.gate_at_input-g.ensures c.kind_of_gate.ensures _ c.in-6.is c.entry.ensures

pub returns-in-7-clause-acts_in_both : goal.returns-in-7-clause-acts_in_both
returns-in-7-clause-acts_in_both c = change_7 _ _ _ _ _ _ _ _ c.gate_at_input-g.ensures c.kind_of_gate.ensures _ c.in-7.is c.edge_pulse.ensures

pub returns-in-8-clause-acts_in_both : goal.returns-in-8-clause-acts_in_both
returns-in-8-clause-acts_in_both c = change_8 _ _ _ _ _ _ _ _ c.gate_at_input-g.ensures c.kind_of_gate.ensures _ _ c.in-8.is c.output.ensures c.pulse.ensures

pub returns-in-9-clause-acts_in_both : goal.returns-in-9-clause-acts_in_both
returns-in-9-clause-acts_in_both c = change_9 _ _ _ _ _ _ _ _ c.gate_at_input-g.ensures c.kind_of_gate.ensures _ c.in-9.is c.edge_raised.ensures

pub returns-in-10-clause-acts_in_both : goal.returns-in-10-clause-acts_in_both
returns-in-10-clause-acts_in_both c = change_buffer _ _ _ _ _ _ _ _ c.gate_at_input-g.ensures c.kind_of_gate.ensures _ c.in-10.is c.buffer_input.ensures

pub returns-in-10-clause-slots_stay : goal.returns-in-10-clause-slots_stay
returns-in-10-clause-slots_stay c = lent_kept _ _ _ c.requires.1 (search rules) (ap (λ (d : Delays). d.parts) c.buffer_input.ensures)

pub returns-in_default-clause-acts_in_both : goal.returns-in_default-clause-acts_in_both
returns-in_default-clause-acts_in_both c = change_pin _ _ _ _ _ _ _ _ c.gate_at_input-g.ensures c.kind_of_gate.ensures _ c.in_default.in_default-own.rest c.pin_raised.ensures
