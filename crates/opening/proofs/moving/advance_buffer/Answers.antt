use Rattle.opening.proofs.Advancing.{buffer_lands, buffer_fires, buffer_releases, buffer_below, buffer_above, is_queue_by, lent_moved}
use borrow.Author.Rules.{rules}
use Rattle.opening.proofs.moving.advance_buffer.Goals as goal

pub advance_queue-requires : goal.advance_queue-requires
advance_queue-requires c = let q = is_queue_by _ _ _ c.kind_of_gate.ensures c.in-16-to-17.if-this-lt16-own.false c.in-16-to-17.if-this-lt18-own.true in search rules

pub returns-in-10-clause-over_all : goal.returns-in-10-clause-over_all
returns-in-10-clause-over_all c = buffer_lands _ _ _ _ _ _ _ _ _ c.kind_of_gate.ensures c.in-10.is c.land.ensures.moves_gate

pub returns-in-11-clause-over_all : goal.returns-in-11-clause-over_all
returns-in-11-clause-over_all c = buffer_fires _ _ _ _ _ _ _ _ _ c.kind_of_gate.ensures _ _ c.in-11.is c.fires_advance-n.ensures.delays_change c.fire_late.ensures

pub returns-in-11-clause-slots_stay : goal.returns-in-11-clause-slots_stay
returns-in-11-clause-slots_stay c = lent_moved _ _ _ _ _ _ _ c.requires.2 c.fires_advance-n.ensures.delays_change (search rules)

pub returns-in-16-to-17-clause-over_all : goal.returns-in-16-to-17-clause-over_all
returns-in-16-to-17-clause-over_all c = buffer_releases _ _ _ _ _ _ _ _ _ _ _ c.kind_of_gate.ensures c.in-16-to-17.if-this-lt16-own.false c.in-16-to-17.if-this-lt18-own.true c.advance_queue.ensures.over_all

pub returns-in_default-clause-over_all : goal.returns-in_default-clause-over_all
returns-in_default-clause-over_all c = buffer_below _ _ _ _ _ _ _ c.kind_of_gate.ensures c.in_default.in_default-own.rest c.in_default.if-this-lt16-own.true

pub returns-in_default-2-clause-over_all : goal.returns-in_default-2-clause-over_all
returns-in_default-2-clause-over_all c = buffer_above _ _ _ _ _ _ _ c.kind_of_gate.ensures c.in_default.in_default-own.rest c.in_default.if-this-lt18-own.false
