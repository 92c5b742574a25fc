use Rattle.circuit.proofs.Numbers.{not_zero, handed}
use Rattle.hours.proofs.Calls.{report_asks, no_size, refused_first, refused_names, refused_room, report_told}
use mathlib.Core.Path.{refl, ap}
use mathlib.Core.Bool.{not}
use Rattle.hours.proofs.hours.Goals as goal

pub returns-in_err-log_refusal : goal.returns-in_err-log_refusal
returns-in_err-log_refusal c = let h = handed _ _ _ c.from_residual.ensures.1 refl in rw h.0 (refused_first _ c.in_err-log_refusal.ensures (not_zero _))

pub returns-then-not-good_names : goal.returns-then-not-good_names
returns-then-not-good_names c = refused_names _ c.in_ok-log_refusal.ensures refl c.good_names.ensures (ap not c.if-not-good_names.true)

pub write_hours-written-requires : goal.write_hours-written-requires
write_hours-written-requires c = let v = c.args in let o = c.outputs-outs.ensures in report_asks (record { circuit = v.circuit.now; log = v.log.now; driver = v.driver; activity = v.activity; len = v.len; report = v.report.now; told = v.told.now }) c.in_ok-log_refusal.ensures refl c.good_names.ensures (ap not c.if-not-good_names.false) o.0 o.1

pub returns-in_err-size : goal.returns-in_err-size
returns-in_err-size c =
    let e = c.in_err-size.ensures in
    let h = handed _ _ _ c.from_residual-in_err-size.ensures.1 (no_size _ _ _ e.ok_part e.value) in
    rw h.0 (refused_room _ c.in_ok-log_refusal.ensures refl c.good_names.ensures (ap not c.if-not-good_names.false) c.outputs-outs.ensures.0 c.write_hours-written.ensures e.ok_part)

pub returns : goal.returns
returns c = report_told _ c.in_ok-log_refusal.ensures refl c.good_names.ensures (ap not c.if-not-good_names.false) c.outputs-outs.ensures.0 c.write_hours-written.ensures c.in_ok-size.ensures.ok_part c.put_at.ensures
