use Rattle.states.proofs.Firing.{add_past, add_gate}
use Rattle.states.proofs.Lending.{of_kind}
use mathlib.Core.Path.{refl}
use borrow.Author.Rules.{rules}
use Rattle.states.proofs.slots.add_fire.Goals as goal

pub returns-then-gates-g : goal.returns-then-gates-g
returns-then-gates-g c = add_past _ _ _ _ c.gates.ensures c.if-gates-g.true

pub start_fire-filed-requires : goal.start_fire-filed-requires
start_fire-filed-requires c = (search rules, of_kind _ _ _ _ _ c.kind_of_gate-seconds.ensures c.countdown-k.ensures)

pub returns : goal.returns
returns c = add_gate _ _ _ _ _ _ _ (search rules) c.gates.ensures c.if-gates-g.false c.slot_at-a.ensures refl (search rules) _ _ _ _ c.kind_of_gate-seconds.ensures c.countdown-k.ensures c.start_fire-filed.ensures c.count_changed.ensures
