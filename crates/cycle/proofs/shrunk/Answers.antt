use native.Mathlib.Nat.{mod-lt}
use Rattle.cycle.proofs.Laws.{not_negative, negative}
use Rattle.cycle.proofs.shrunk.Goals as goal

pub returns-then-w-lt-FIRST_NEGATIVE : goal.returns-then-w-lt-FIRST_NEGATIVE
returns-then-w-lt-FIRST_NEGATIVE c = not_negative _ _ c.if-w-lt-FIRST_NEGATIVE.true c.requires.0

pub from_end-requires : goal.from_end-requires
from_end-requires c = mod-lt _ c.requires.0

pub returns : goal.returns
returns c = negative _ _ _ c.ranges.w.fits c.if-w-lt-FIRST_NEGATIVE.false c.requires.0 c.from_end.ensures
