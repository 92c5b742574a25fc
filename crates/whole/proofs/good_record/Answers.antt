use borrow.Author.Rules.{rules}
use Rattle.links.specs.Links.{net}
use Rattle.whole.proofs.Records.{no_fit, record_fits, no_head, stands, bad_stop, bad_rows, good_sized}
use mathlib.Core.Path.{ap}
use mathlib.Core.Bool.{not}
use Rattle.whole.proofs.good_record.Goals as goal

pub returns-then-room-size : goal.returns-then-room-size
returns-then-room-size c = let a = c.args in no_fit (net a.links.now) a.log.now a.at _ _ _ c.outputs.ensures.0 c.record_size-size.ensures.value c.if-room-size.true

pub returns-then-not-good_head : goal.returns-then-not-good_head
returns-then-not-good_head c = let a = c.args in no_head (net a.links.now) a.log.now a.at _ _ _ c.outputs.ensures.0 c.record_size-size.ensures.value c.if-room-size.false _ c.good_head.ensures (ap not c.if-not-good_head.true)

pub returns-then-not-good_stop : goal.returns-then-not-good_stop
returns-then-not-good_stop c = let a = c.args in bad_stop (net a.links.now) a.log.now a.at _ _ _ c.outputs.ensures.0 c.record_size-size.ensures.value c.if-room-size.false _ c.good_head.ensures (ap not c.if-not-good_head.false) _ c.stop_in.ensures _ c.good_stop.ensures (ap not c.if-not-good_stop.true)

pub good_rows-requires : goal.good_rows-requires
good_rows-requires c = let a = c.args in let l = c.requires in (stands (net a.links.now) a.log.now a.at a.tick _ _ c.outputs.ensures.0 c.record_size-size.ensures.value c.if-room-size.false _ c.good_head.ensures (ap not c.if-not-good_head.false) l, record_fits (net a.links.now) a.log.now a.at a.tick _ _ c.outputs.ensures.0 c.record_size-size.ensures.value c.if-room-size.false l)

pub returns-then-not-good_rows : goal.returns-then-not-good_rows
returns-then-not-good_rows c = let a = c.args in bad_rows (net a.links.now) a.log.now a.at _ _ _ c.outputs.ensures.0 c.record_size-size.ensures.value c.if-room-size.false _ c.good_head.ensures (ap not c.if-not-good_head.false) _ c.stop_in.ensures _ c.good_stop.ensures (ap not c.if-not-good_stop.false) _ c.good_rows.ensures (ap not c.if-not-good_rows.true)

pub returns : goal.returns
returns c = let a = c.args in good_sized (net a.links.now) a.log.now a.at _ _ _ c.outputs.ensures.0 c.record_size-size.ensures.value c.if-room-size.false _ c.good_head.ensures (ap not c.if-not-good_head.false) _ c.stop_in.ensures _ c.good_stop.ensures (ap not c.if-not-good_stop.false) _ c.good_rows.ensures (ap not c.if-not-good_rows.false)
