use Rattle.cycle.proofs.Laws.{down_wraps, down_goes, up_wraps, up_goes}
use mathlib.Core.Path.{refl}
use Rattle.cycle.proofs.step.Goals as goal

pub returns-then-r-eq0 : goal.returns-then-r-eq0
returns-then-r-eq0 c = down_wraps _ _ _ _ c.if-down.true c.if-r-eq0.true refl

pub returns-then-down : goal.returns-then-down
returns-then-down c = down_goes _ _ _ _ c.if-down.true c.if-r-eq0.false refl

pub returns-then-r-n : goal.returns-then-r-n
returns-then-r-n c = up_wraps _ _ _ _ c.if-down.false c.if-r-n.true refl

pub returns : goal.returns
returns c = up_goes _ _ _ _ c.if-down.false c.if-r-n.false refl
