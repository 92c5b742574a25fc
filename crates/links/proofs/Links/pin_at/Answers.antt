use Rattle.kinds.specs.Pins.{in_of}
use Rattle.links.proofs.Reading.{pin_none, pin_some}
use Rattle.links.proofs.Links.pin_at.Goals as goal

pub returns-then-inputs-i : goal.returns-then-inputs-i
unfolding in_of
returns-then-inputs-i c = pin_none _ _ _ c.inputs.ensures c.if-inputs-i.true

pub returns : goal.returns
returns c = pin_some _ _ _ _ _ _ _ c.inputs.ensures c.if-inputs-i.false c.input_entry-g.ensures c.cell-gate.ensures c.less-p.ensures c.pin_at.ensures
