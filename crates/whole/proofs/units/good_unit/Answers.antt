use Rattle.whole.proofs.Forms.{no_gate, gate_there}
use Rattle.whole.proofs.units.good_unit.Goals as goal

pub returns-then-gates-g : goal.returns-then-gates-g
returns-then-gates-g c = no_gate _ _ _ _ c.gates.ensures.0 c.if-gates-g.true

pub returns : goal.returns
returns c = gate_there _ _ _ _ c.gates.ensures.0 _ c.if-gates-g.false c.can_have.ensures
