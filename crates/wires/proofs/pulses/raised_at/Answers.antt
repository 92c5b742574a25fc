use Rattle.wires.proofs.Pulsing.{raised_past, raised_down, raised_up}
use Rattle.std.proofs.Common.{rules}
use Rattle.wires.proofs.pulses.raised_at.Goals as goal

pub returns-then-outputs-o : goal.returns-then-outputs-o
returns-then-outputs-o c = raised_past _ _ _ _ c.outputs.ensures c.if-outputs-o.true

pub returns-then-d-o-eq0 : goal.returns-then-d-o-eq0
returns-then-d-o-eq0 c = raised_down _ _ _ _ c.outputs.ensures _ (search rules) c.if-outputs-o.false c.get-d.ensures c.if-d-o-eq0.true

pub returns : goal.returns
returns c = raised_up _ _ _ _ c.outputs.ensures _ (search rules) c.if-outputs-o.false c.get-d.ensures _ c.if-d-o-eq0.false c.get.ensures
