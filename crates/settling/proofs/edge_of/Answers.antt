use Rattle.settling.proofs.Changes.{rises, falls, stays_level}
use Rattle.settling.proofs.edge_of.Goals as goal

pub returns-then-lt64 : goal.returns-then-lt64
returns-then-lt64 c = rises _ _ _ _ c.as_float-before.ensures c.as_float-after.ensures _ c.lt64.ensures c.if-lt64.true

pub returns-then-lt64-2 : goal.returns-then-lt64-2
returns-then-lt64-2 c = falls _ _ _ _ c.as_float-before.ensures c.as_float-after.ensures _ c.lt64.ensures _ c.if-lt64.false c.lt64-2.ensures c.if-lt64-2.true

pub returns : goal.returns
returns c = stays_level _ _ _ _ c.as_float-before.ensures c.as_float-after.ensures _ c.lt64.ensures _ c.if-lt64.false c.lt64-2.ensures c.if-lt64-2.false
