use Rattle.kinds.specs.Pins.{out_of}
use Rattle.links.proofs.Reading.{out_none, out_some}
use Rattle.links.proofs.Links.out_at.Goals as goal

pub returns-then-outputs-o : goal.returns-then-outputs-o
unfolding out_of
returns-then-outputs-o c = out_none _ _ _ c.outputs.ensures c.if-outputs-o.true

pub returns : goal.returns
returns c = out_some _ _ _ _ _ _ _ c.outputs.ensures c.if-outputs-o.false c.gate_at_output-g.ensures c.cell-gate.ensures c.less-p.ensures c.out_at.ensures
