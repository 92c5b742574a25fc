use Rattle.delays.specs.States.{buffer}
use Rattle.delays.proofs.Buffers.{advance_none, advance_lands, advance_flies}
use Rattle.delays.proofs.buffer.Buffer.advance.Goals as goal

pub returns-then-due : goal.returns-then-due
unfolding buffer
returns-then-due c = advance_lands c.args.self _ _ _ _ _ _ _ c.in-Some.is c.tick_down-left.ensures c.due.ensures _ c.if-due.true c.land.ensures

pub returns-in_default : goal.returns-in_default
returns-in_default c = advance_none _ _ _ _ _ c.in_default.is

pub returns : goal.returns
returns c = advance_flies _ _ _ _ _ _ _ _ c.in-Some.is c.tick_down-left.ensures c.due.ensures c.if-due.false
