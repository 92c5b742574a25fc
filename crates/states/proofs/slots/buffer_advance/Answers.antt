use Rattle.states.proofs.Lending.{fly_past, fly_gate, by_kind}
use mathlib.Core.Path.{refl}
use borrow.Author.Rules.{rules}
use Rattle.states.proofs.slots.buffer_advance.Goals as goal

pub returns-then-gates-g : goal.returns-then-gates-g
returns-then-gates-g c = fly_past _ _ _ _ c.gates.ensures c.if-gates-g.true _

pub fly-landed-requires : goal.fly-landed-requires
fly-landed-requires c = (search rules, by_kind _ _ _ c.kind_of_gate-seconds.ensures)

pub returns : goal.returns
returns c = fly_gate _ _ _ _ _ _ _ (search rules) c.gates.ensures c.if-gates-g.false c.slot_at-a.ensures refl (search rules) _ _ _ _ c.kind_of_gate-seconds.ensures c.fly-landed.ensures c.count_changed.ensures
