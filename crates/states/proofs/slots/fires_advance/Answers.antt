use Rattle.states.proofs.Firing.{fires_past, fires_gate}
use mathlib.Core.Path.{refl}
use borrow.Author.Rules.{rules}
use Rattle.states.proofs.slots.fires_advance.Goals as goal

pub returns-then-gates-g : goal.returns-then-gates-g
returns-then-gates-g c =
    let h = fires_past _ _ _ _ c.gates.ensures c.if-gates-g.true _ in
    record { delays_change = h.0; upper_bound = h.1 }

pub returns : goal.returns
returns c =
    let h = fires_gate _ _ _ _ _ _ _ (search rules) c.gates.ensures c.if-gates-g.false c.slot_at-a.ensures refl (search rules) _ _ _ c.kind_of_gate-seconds.ensures (c.run_fires.ensures.turns, c.run_fires.ensures.upper_bound) in
    record { delays_change = h.0; upper_bound = h.1 }
