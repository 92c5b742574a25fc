use Rattle.value.proofs.Mapped.{row_again}
use Rattle.units.proofs.Sending.{send_full, send_again, send_new}
use borrow.Author.Rules.{rules}
use Rattle.units.proofs.events.send.Goals as goal

pub returns-then-n-ge-MOST_EVENTS : goal.returns-then-n-ge-MOST_EVENTS
returns-then-n-ge-MOST_EVENTS c = send_full _ _ _ _ _ c.outbox-h.ensures c.held-n.ensures c.if-n-ge-MOST_EVENTS.true

pub returns-then-sent_by : goal.returns-then-sent_by
returns-then-sent_by c = send_again _ _ _ _ _ c.outbox-h.ensures c.held-n.ensures _ c.sent_by.ensures c.if-sent_by.true

pub returns : goal.returns
returns c =
    let again = row_again 8 c.args.row c.kinds_of.result c.contents_of.result (search rules) (search rules) (search rules) c.kinds_of.ensures c.contents_of.ensures in
    send_new _ _ _ _ _ c.outbox-h.ensures c.held-n.ensures _ c.sent_by.ensures _ _ _ _ _ _ again c.requires c.if-n-ge-MOST_EVENTS.false c.if-sent_by.false (search rules) (search rules) c.put.ensures (c.put_row.ensures.area_value, c.put_row.ensures.area_value_2) (c.put_row-2.ensures.area_value, c.put_row-2.ensures.area_value_2) c.put-2.ensures
