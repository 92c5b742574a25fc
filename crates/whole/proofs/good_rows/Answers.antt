use borrow.Author.Rules.{rules}
use Rattle.links.specs.Links.{net}
use Rattle.walk.proofs.Outputs.{head_there}
use Rattle.whole.proofs.Records.{begun_fit, carried_fit, shown_fit, bad_begun, bad_carried, rows_are}
use mathlib.Core.Path.{ap}
use mathlib.Core.Bool.{not}
use Rattle.whole.proofs.good_rows.Goals as goal

pub good_units-requires : goal.good_units-requires
good_units-requires c = let a = c.args in begun_fit (net a.links.now) a.log.now a.at _ _ c.begun_count-begun.ensures.0 c.carried_count-carried.ensures.0 c.requires.1

pub returns-then-not-good_units : goal.returns-then-not-good_units
returns-then-not-good_units c = let a = c.args in bad_begun (net a.links.now) a.log.now a.at _ _ c.begun_count-begun.ensures.0 c.carried_count-carried.ensures.0 _ c.good_units.ensures (ap not c.if-not-good_units.true)

pub good_units-requires-2 : goal.good_units-requires-2
good_units-requires-2 c = let a = c.args in carried_fit (net a.links.now) a.log.now a.at _ _ c.begun_count-begun.ensures.0 c.carried_count-carried.ensures.0 c.requires.1

pub returns-then-not-good_units-2 : goal.returns-then-not-good_units-2
returns-then-not-good_units-2 c = let a = c.args in bad_carried (net a.links.now) a.log.now a.at _ _ c.begun_count-begun.ensures.0 c.carried_count-carried.ensures.0 _ c.good_units.ensures (ap not c.if-not-good_units.false) _ c.good_units-2.ensures (ap not c.if-not-good_units-2.true)

pub shown_count-requires : goal.shown_count-requires
shown_count-requires c = head_there _ _ c.requires.0

pub good_outputs-requires : goal.good_outputs-requires
good_outputs-requires c = let a = c.args in (c.shown_count.ensures.1, shown_fit (net a.links.now) a.log.now a.at _ _ c.shown_at.ensures c.shown_count.ensures.0 c.requires.1)

pub returns : goal.returns
returns c = let a = c.args in rows_are (net a.links.now) a.log.now a.at _ _ c.begun_count-begun.ensures.0 c.carried_count-carried.ensures.0 _ c.good_units.ensures (ap not c.if-not-good_units.false) _ c.good_units-2.ensures (ap not c.if-not-good_units-2.false) _ _ c.shown_at.ensures c.shown_count.ensures.0 _ c.good_outputs.ensures
