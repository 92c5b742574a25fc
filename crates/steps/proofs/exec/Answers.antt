use Rattle.steps.proofs.Arms.{on_break, queue_kinds, send_kinds, lent_kept, queue_kind, on_reroute, on_buffer, on_stopwatch, on_queue, on_var_get, on_var_set, on_branch, on_union, on_toggle, on_cycle, on_send, on_low, on_high}
use borrow.Author.Rules.{rules}
use Rattle.steps.proofs.exec.Goals as goal

pub exec_queue-requires : goal.exec_queue-requires
exec_queue-requires c = (search rules, c.requires.all_lent.2, queue_kind _ _ _ c.requires.entered.kind (queue_kinds _ c.in-16-to-17.in_default-own.rest c.in-16-to-17.if-k-lt15-own.false c.in-16-to-17.if-k-lt18-own.true))

pub returns-in-2-clause-over_all : goal.returns-in-2-clause-over_all
returns-in-2-clause-over_all c = on_reroute _ _ _ _ _ _ c.requires.entered _ c.in-2.is c.output.ensures

pub returns-in-11 : goal.returns-in-11
returns-in-11 c =
    let m = c.exec_buffer.ensures _ _ in
    record { over_all = on_buffer _ _ _ _ _ _ _ _ c.requires.entered c.in-11.is m; slots_stay = lent_kept _ _ _ _ _ _ _ _ c.requires.all_lent.2 (search rules) m.state }

pub returns-in-15 : goal.returns-in-15
returns-in-15 c =
    let m = c.exec_stopwatch.ensures _ in
    record { over_all = on_stopwatch _ _ _ _ _ _ _ _ c.requires.entered _ c.in-15.is c.pin.ensures m; slots_stay = lent_kept _ _ _ _ _ _ _ _ c.requires.all_lent.2 (search rules) m.state }

pub returns-in-18-clause-over_all : goal.returns-in-18-clause-over_all
returns-in-18-clause-over_all c = on_var_get _ _ _ _ _ _ _ _ c.requires.entered c.in-18.is (c.exec_var_get.ensures _ _)

pub returns-in-19-clause-over_all : goal.returns-in-19-clause-over_all
returns-in-19-clause-over_all c = on_var_set _ _ _ _ _ _ _ _ c.requires.entered c.in-19.is (c.exec_var_set.ensures _ _)

pub returns-in-20-clause-over_all : goal.returns-in-20-clause-over_all
returns-in-20-clause-over_all c = on_branch _ _ _ _ _ _ _ _ c.requires.entered c.in-20.is (c.exec_branch.ensures _ _)

pub returns-in-21-clause-over_all : goal.returns-in-21-clause-over_all
returns-in-21-clause-over_all c = on_union _ _ _ _ _ _ _ _ c.requires.entered c.in-21.is (c.exec_union.ensures _ _)

pub returns-in-22-clause-over_all : goal.returns-in-22-clause-over_all
returns-in-22-clause-over_all c = on_toggle _ _ _ _ _ _ _ _ c.requires.entered c.in-22.is (c.exec_toggle.ensures _ _)

pub returns-in-23-clause-over_all : goal.returns-in-23-clause-over_all
returns-in-23-clause-over_all c = on_cycle _ _ _ _ _ _ _ _ c.requires.entered _ c.in-23.is c.pin-in-23.ensures (c.exec_cycle.ensures _ _)

pub returns-in-31-clause-over_all : goal.returns-in-31-clause-over_all
returns-in-31-clause-over_all c = on_break _ _ _ _ _ _ _ _ c.requires.entered c.in-31.is (c.exec_break.ensures _ _)

pub returns-in-16-to-17 : goal.returns-in-16-to-17
returns-in-16-to-17 c =
    let m = c.exec_queue.ensures _ in
    record { over_all = on_queue _ _ _ _ _ _ _ _ c.requires.entered (queue_kinds _ c.in-16-to-17.in_default-own.rest c.in-16-to-17.if-k-lt15-own.false c.in-16-to-17.if-k-lt18-own.true) m; slots_stay = lent_kept _ _ _ _ _ _ _ _ c.requires.all_lent.2 (search rules) m.state }

pub returns-in-24-to-25-clause-over_all : goal.returns-in-24-to-25-clause-over_all
returns-in-24-to-25-clause-over_all c = on_send _ _ _ _ _ _ _ _ c.requires.entered (send_kinds _ c.in-24-to-25.in_default-own.rest c.in-24-to-25.if-k-lt18-own.false c.in-24-to-25.if-k-lt26-own.true) (c.exec_send.ensures _)

pub returns-in_default-clause-over_all : goal.returns-in_default-clause-over_all
returns-in_default-clause-over_all c = on_low _ _ _ _ _ _ c.requires.entered c.in_default.in_default-own.rest c.in_default.if-k-lt15-own.true

pub returns-in_default-2-clause-over_all : goal.returns-in_default-2-clause-over_all
returns-in_default-2-clause-over_all c = on_high _ _ _ _ _ _ c.requires.entered c.in_default.in_default-own.rest c.in_default.if-k-lt26-own.false
