use native.Mathlib.Omega.{arith}
use Rattle.walk.proofs.Shown.{shown_fits}
use Rattle.hours.proofs.Passing.{record_shown, record_stopped}
use Rattle.hours.proofs.counting.count_record.Goals as goal

pub count_tick-requires : goal.count_tick-requires
count_tick-requires c =
    let f = shown_fits _ _ _ c.unstopped.ensures c.if-unstopped.true c.shown_at.ensures c.requires.0 in
    (omega (arith, f), c.requires.1)

pub returns-then-unstopped : goal.returns-then-unstopped
returns-then-unstopped c = record_shown _ _ _ c.requires.0 _ c.unstopped.ensures _ _ _ _ _ c.if-unstopped.true _ c.shown_at.ensures c.args.names.named.1 c.args.names.named.2 _ _ _ _ c.count_tick.ensures

pub returns : goal.returns
returns c = record_stopped _ _ _ c.requires.0 _ c.unstopped.ensures _ _ _ _ _ c.if-unstopped.false
