use Rattle.unit.proofs.Beginning.{pin_below, pin_from}
use Rattle.unit.proofs.is_pin.Goals as goal

pub returns-then-form-lt16 : goal.returns-then-form-lt16
returns-then-form-lt16 c = pin_below _ c.if-form-lt16.true

pub returns : goal.returns
returns c = pin_from _ c.if-form-lt16.false
